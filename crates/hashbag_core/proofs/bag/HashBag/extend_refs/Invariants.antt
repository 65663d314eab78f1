use Rattle.hashbag_core.specs.Extends.{CloneOnce}
use Rattle.hashbag_core.proofs.InsertLemmas.{SoFar}
use Rattle.hashbag_core.proofs.bag.HashBag.extend_refs.Given as goal

-- clones of the items so far went in in turn
abbrev pub invariant-loop-item : goal.invariant-loop-item
invariant-loop-item g l = SoFar g.T.PartialEq.eq (CloneOnce g.T.Clone.is_clone) l.fn.self l.self l.yielded
