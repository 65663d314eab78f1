use Rattle.std.proofs.Common.{◌≡◌, ◌++◌, length, map}
use Rattle.std.specs.Vec.Iter.{into_iter_items, into_iter_len}
use Rattle.hashbag_ledger_db.specs.Filed.{plain_movement}
use Rattle.hashbag_ledger_db.proofs.movements.plain_movements.Given as goal

-- the movements so far, and those that are to come
abbrev pub invariant-loop-movement : goal.invariant-loop-movement
invariant-loop-movement l = record {
  long : into_iter_len l.movement-iterator ≡ length (into_iter_items l.movement-iterator);
  whole : l.all.items ++ map plain_movement (into_iter_items l.movement-iterator) ≡ map plain_movement (into_iter_items l.initial.movement-iterator);
}
