use Rattle.std.proofs.Common.{◌≡◌, ◌++◌, length}
use Rattle.std.specs.List.{zip}
use Rattle.std.specs.Vec.Iter.{into_iter_items, into_iter_len}
use Rattle.hashbag_ledger_lib.proofs.pairs.zip.Given as goal

-- the pairs so far, and those that are to come
abbrev pub invariant-loop-first : goal.invariant-loop-first
invariant-loop-first g l = record {
  long : into_iter_len l.first-iterator ≡ length (into_iter_items l.first-iterator);
  whole : l.pairs.items ++ zip (into_iter_items l.first-iterator) (into_iter_items l.others) ≡ zip (into_iter_items l.initial.first-iterator) (into_iter_items l.initial.others);
}
