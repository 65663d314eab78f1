use Rattle.hashbag_core.specs.Extends.{Once}
use Rattle.hashbag_core.proofs.InsertLemmas.{SoFar}
use Rattle.hashbag_core.proofs.bag.HashBag.extend.Given as goal

-- the items so far went in in turn
abbrev pub invariant-loop-item : goal.invariant-loop-item
invariant-loop-item g l = SoFar g.T.PartialEq.eq Once l.fn.self l.self l.yielded
