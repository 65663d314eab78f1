use Rattle.std.proofs.Common.{◌≡◌, String, Global, length}
use Rattle.std.specs.String.{string_eq}
use Rattle.std.specs.Vec.Iter.{into_iter_items, into_iter_len}
use Rattle.hashbag_ledger_lib.specs.Counts.{movements_of}
use Rattle.hashbag_ledger_lib.specs.Ledger.{stock_of}
use Rattle.hashbag_ledger_lib.proofs.CountLemmas.{ComparedSoFar}
use Rattle.hashbag_ledger_lib.proofs.counting.differences_of.Given as goal

-- the records so far were compared
abbrev pub invariant-loop-record : goal.invariant-loop-record
invariant-loop-record g l = record {
  long : into_iter_len l.record-iterator ≡ length (into_iter_items l.record-iterator);
  compared : ((v : String Global) → stock_of string_eq l.fn.unnamed.items v ≡ 0)
      → ComparedSoFar string_eq (stock_of string_eq l.there.items) (stock_of string_eq l.counted.items) (movements_of (into_iter_items l.initial.record-iterator)) (movements_of (into_iter_items l.record-iterator)) l.differences.items (stock_of string_eq l.named.items);
}
