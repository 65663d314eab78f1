use Rattle.hashbag_core.specs.Extends.{AsItIs}
use Rattle.hashbag_core.proofs.InsertLemmas.{SoFar}
use Rattle.hashbag_core.proofs.bag.HashBag.extend_many.Given as goal

-- the items so far went in in turn
abbrev pub invariant-loop-value : goal.invariant-loop-value
invariant-loop-value g l = SoFar g.T.PartialEq.eq AsItIs l.fn.self l.self l.yielded
