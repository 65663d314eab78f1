use Rattle.std.proofs.Common.{◌≡◌, ℕ, [], List, String, Global, length}
use Rattle.std.specs.String.{string_eq}
use Rattle.std.specs.Vec.Iter.{into_iter_items, into_iter_len}
use Rattle.hashbag_ledger_lib.specs.Entries.{IsStockAfter}
use Rattle.hashbag_ledger_lib.proofs.BookLemmas.{BookedSoFar}
use Rattle.hashbag_ledger_lib.proofs.ledger.booking.book_all.Given as goal

-- what became of the movements so far
abbrev pub invariant-loop-movement : goal.invariant-loop-movement
invariant-loop-movement g l = record {
  long : into_iter_len l.movement-iterator ≡ length (into_iter_items l.movement-iterator);
  booked : (L : List (String Global × ℕ)) → IsStockAfter string_eq L [] l.fn.stock → BookedSoFar string_eq L (into_iter_items l.initial.movement-iterator) (into_iter_items l.movement-iterator) l.entries.items l.stock;
  limit : l.stock.most ≡ l.fn.stock.most;
}
