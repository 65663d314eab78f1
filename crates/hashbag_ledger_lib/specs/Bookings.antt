-- Clauses about booked movements. They hold for any list L that the stock had at the beginning, and for any earlier movements ms.
use Rattle.std.specs.Prelude.{ℕ, ◌++◌, List, [], ◌∷◌, String, string_cmp}
use Rattle.std.specs.Global.{Global}
use Rattle.std.specs.String.{string_eq}
use Rattle.hashbag_core.specs.Bag.{Bag}
use Rattle.hashbag_ledger_lib.specs.declared.ledger.booking.Booked.{Booked}
use Rattle.hashbag_ledger_lib.specs.declared.movements.Movement.{Movement}
use Rattle.hashbag_ledger_lib.specs.declared.movements.Outcome.{Outcome}
use Rattle.hashbag_ledger_lib.specs.declared.movements.Place.{Place}
use Rattle.hashbag_ledger_lib.specs.Batches.{Continues}
use Rattle.hashbag_ledger_lib.specs.Entries.{refusals_in, IsStockAfter, TakesNext, IsBooked}
use Rattle.hashbag_ledger_lib.specs.Ledger.{Leaves}
use Rattle.hashbag_ledger_lib.specs.Settled.{listed, IsPastWithin}

-- `booked` is what the movements ms leave of a stock that began as L, and what became of each movement; no total passes `most`
abbrev pub HasBooked : ℕ → List (String Global × ℕ) → List (Movement (String Global)) → Booked (String Global) → Type 0
HasBooked most L ms booked = IsBooked string_eq string_cmp most L ms booked.balance.items booked.entries.items

-- the movement m was booked with this outcome, and left the stock `new`
abbrev pub BooksMovement : {S : Type 0} → Bag (String Global) S → Bag (String Global) S → Movement (String Global) → Outcome → Type 0
BooksMovement old new m outcome =
    (L : List (String Global × ℕ)) (ms : List (Movement (String Global))) → IsStockAfter string_eq L ms old → TakesNext string_eq L ms m new outcome

-- with the movement m, which is at the place, the total would pass the limit of the stock
abbrev pub StockPassesLimitWith : {S : Type 0} → Bag (String Global) S → Movement (String Global) → Place → Type 0
StockPassesLimitWith stock m place =
    (L : List (String Global × ℕ)) (ms : List (Movement (String Global))) → IsStockAfter string_eq L ms stock → IsPastWithin string_eq stock.most L (ms ++ m ∷ []) place

-- if no movement came to the stock before, `booked` is what the movements ms leave, and what became of each movement
abbrev pub BooksFirst : {S : Type 0} → Bag (String Global) S → List (Movement (String Global)) → Booked (String Global) → Type 0
BooksFirst stock ms booked = (L : List (String Global × ℕ)) → IsStockAfter string_eq L [] stock → HasBooked stock.most L ms booked

-- if no movement came to the stock before, the total would pass its limit with the movement of ms at the place
abbrev pub StockPassesLimitAmong : {S : Type 0} → Bag (String Global) S → List (Movement (String Global)) → Place → Type 0
StockPassesLimitAmong stock ms place = (L : List (String Global × ℕ)) → IsStockAfter string_eq L [] stock → IsPastWithin string_eq stock.most L ms place

-- for any movements `before` that left the balance `kept`: if these and the batch were entered as one batch, the balance would be the new
-- balance, and the refusals would be the refusals of `before` followed by the new refusals
abbrev pub ContinuesFrom : List (String Global × ℕ) → List (Movement (String Global)) → Booked (String Global) → Type 0
ContinuesFrom kept batch booked =
    (start : String Global → ℕ) (before : List (Movement (String Global))) → Leaves string_eq start before (listed string_eq kept) → Continues string_eq string_cmp start before batch booked.balance.items (refusals_in booked.entries.items)
