use Rattle.std.proofs.Common.{◌≡◌, length}
use Rattle.std.specs.Vec.Iter.{into_iter_items, into_iter_len}
use Rattle.hashbag_ledger_lib.proofs.UndoLemmas.{IsTurnedSoFar}
use Rattle.hashbag_ledger_lib.proofs.undoing.opposites.Given as goal

-- the movements so far were turned
abbrev pub invariant-loop-movement : goal.invariant-loop-movement
invariant-loop-movement g l = record {
  long : into_iter_len l.movement-iterator ≡ length (into_iter_items l.movement-iterator);
  turned : IsTurnedSoFar (into_iter_items l.initial.movement-iterator) (into_iter_items l.movement-iterator) l.all.items l.going.items;
}
