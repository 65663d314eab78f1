use Rattle.std.proofs.Common.{◌≡◌, ◌++◌, length, map}
use Rattle.std.specs.Vec.Iter.{into_iter_items, into_iter_len}
use Rattle.hashbag_ledger_lib.proofs.verifying.movements_from.Given as goal

-- those so far, and those that are to come
abbrev pub invariant-loop-one : goal.invariant-loop-one
invariant-loop-one l = record {
  long : into_iter_len l.one-iterator ≡ length (into_iter_items l.one-iterator);
  movements : l.movements.items ++ map (λ k. k.movement) (into_iter_items l.one-iterator) ≡ map (λ k. k.movement) (into_iter_items l.initial.one-iterator);
  extras : l.extras.items ++ map (λ k. k.extra) (into_iter_items l.one-iterator) ≡ map (λ k. k.extra) (into_iter_items l.initial.one-iterator);
}
