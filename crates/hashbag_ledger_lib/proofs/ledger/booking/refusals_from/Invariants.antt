use Rattle.std.proofs.Common.{◌≡◌, ◌++◌, length}
use Rattle.std.specs.Vec.Iter.{into_iter_items, into_iter_len}
use Rattle.hashbag_ledger_lib.specs.Entries.{refusals_in}
use Rattle.hashbag_ledger_lib.proofs.ledger.booking.refusals_from.Given as goal

-- the refusals so far, and those that are to come
abbrev pub invariant-loop-entry : goal.invariant-loop-entry
invariant-loop-entry g l = record {
  long : into_iter_len l.entry-iterator ≡ length (into_iter_items l.entry-iterator);
  whole : l.refusals.items ++ refusals_in (into_iter_items l.entry-iterator) ≡ refusals_in (into_iter_items l.initial.entry-iterator);
}
