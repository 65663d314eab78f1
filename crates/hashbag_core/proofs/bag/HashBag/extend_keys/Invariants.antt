use Rattle.hashbag_core.specs.Keys.{NamedOnce}
use Rattle.hashbag_core.proofs.InsertLemmas.{SoFar}
use Rattle.hashbag_core.proofs.bag.HashBag.extend_keys.Given as goal

-- a value of each key so far went in in turn
abbrev pub invariant-loop-key : goal.invariant-loop-key
invariant-loop-key g l = SoFar g.T.PartialEq.eq (NamedOnce g.Q.Key.names) l.fn.self l.self l.yielded
