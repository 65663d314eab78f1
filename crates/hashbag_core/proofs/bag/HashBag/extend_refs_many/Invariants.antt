use Rattle.hashbag_core.specs.Extends.{CloneAsOften}
use Rattle.hashbag_core.proofs.InsertLemmas.{SoFar}
use Rattle.hashbag_core.proofs.bag.HashBag.extend_refs_many.Given as goal

-- clones of the items so far went in in turn
abbrev pub invariant-loop-value : goal.invariant-loop-value
invariant-loop-value g l = SoFar g.T.PartialEq.eq (CloneAsOften g.T.Clone.is_clone) l.fn.self l.self l.yielded
