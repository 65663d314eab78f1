use Rattle.std.proofs.Common.{◌≡◌, ◌++◌, length, filter}
use Rattle.std.specs.Vec.Iter.{into_iter_items, into_iter_len}
use Rattle.hashbag_ledger_lib.specs.Recalls.{is_of}
use Rattle.hashbag_ledger_lib.proofs.recalling.own_of.Given as goal

-- the batch's entries so far, and those that are to come
abbrev pub invariant-loop-entry : goal.invariant-loop-entry
invariant-loop-entry g l = record {
  long : into_iter_len l.entry-iterator ≡ length (into_iter_items l.entry-iterator);
  whole : l.own.items ++ filter (is_of l.fn.batch) (into_iter_items l.entry-iterator) ≡ filter (is_of l.fn.batch) (into_iter_items l.initial.entry-iterator);
}
