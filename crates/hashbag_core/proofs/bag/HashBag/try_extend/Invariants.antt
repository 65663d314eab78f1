use Rattle.hashbag_core.specs.Extends.{OkOnce}
use Rattle.hashbag_core.proofs.InsertLemmas.{SoFar}
use Rattle.hashbag_core.proofs.bag.HashBag.try_extend.Given as goal

-- the values of the items so far went in in turn
abbrev pub invariant-loop-item : goal.invariant-loop-item
invariant-loop-item g l = SoFar g.T.PartialEq.eq OkOnce l.fn.self l.self l.yielded
