use Rattle.std.proofs.Common.{◌≡◌, ◌++◌, length}
use Rattle.std.specs.Map.{keys_of, values_of}
use Rattle.std.specs.Vec.Iter.{into_iter_items, into_iter_len}
use Rattle.hashbag_ledger_lib.proofs.pairs.unzip.Given as goal

-- the halves so far, and those that are to come
abbrev pub invariant-loop-first : goal.invariant-loop-first
invariant-loop-first g l = record {
  long : into_iter_len l.first-iterator ≡ length (into_iter_items l.first-iterator);
  firsts : l.firsts.items ++ keys_of (into_iter_items l.first-iterator) ≡ keys_of (into_iter_items l.initial.first-iterator);
  seconds : l.seconds.items ++ values_of (into_iter_items l.first-iterator) ≡ values_of (into_iter_items l.initial.first-iterator);
}
