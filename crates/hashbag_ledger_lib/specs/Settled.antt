-- A stock that begins as a list. An article may be in the list more than once.
use Rattle.std.specs.Prelude.{◌≡◌, ℕ, ◌+◌, Bool, List, length, sum_by}
use Rattle.hashbag_core.specs.Bag.{Bag}
use Rattle.hashbag_core.specs.Occurrences.{greatest_total}
use Rattle.hashbag_csv.specs.Quantities.{number_sum, quantity}
use Rattle.hashbag_ledger_lib.specs.declared.movements.Movement.{Movement}
use Rattle.hashbag_ledger_lib.specs.declared.movements.Place.{Place}
use Rattle.hashbag_ledger_lib.specs.declared.movements.Refusal.{Refusal}
use Rattle.hashbag_ledger_lib.specs.Ledger.{coming, going, stock_of, entered_of, refused_of, Leaves, IsPast}

module _ {T : Type 0} (eq : T → T → Bool) where
  -- how many of v are in a list: the sum of the numbers that the list has for v
  abbrev pub listed : List (T × ℕ) → T → ℕ
  listed L v = quantity eq v L

  -- the total, which at first is the sum of L, would pass `most` with the movement at this place
  abbrev pub IsPastWithin : ℕ → List (T × ℕ) → List (Movement T) → Place → Type 0
  IsPastWithin most L ms place = IsPast eq (listed L) (number_sum L) most ms place

  -- the total, which at first is the sum of L, would pass `usize::MAX` with the movement at this place
  abbrev pub IsPastFrom : List (T × ℕ) → List (Movement T) → Place → Type 0
  IsPastFrom L ms place = IsPastWithin greatest_total L ms place

  -- the movements ms came, in turn, to a stock that began as L: they left `items`, the refusals are `refused`, and no total passed `most`
  pub record IsAfter (L : List (T × ℕ)) (ms : List (Movement T)) (refused : List (Refusal T)) (items : List T) (most : ℕ) : Type 0 where
    pub leaves : Leaves eq (listed L) ms (stock_of eq items)
    pub refusals : refused ≡ refused_of eq (listed L) ms
    pub total : length items + sum_by (λ m. going m.change) (entered_of eq (listed L) ms) ≡ number_sum L + sum_by (λ m. coming m.change) (entered_of eq (listed L) ms)
    pub fit : (p : Place) → ¬ (IsPastWithin most L ms p)

  -- the movements ms came, in turn, to a stock that began as L: they left `stock`, the refusals are `refused`, and no total
  -- passed its limit
  abbrev pub IsLedgerOf : {S : Type 0} → List (T × ℕ) → List (Movement T) → List (Refusal T) → Bag T S → Type 0
  IsLedgerOf L ms refused stock = IsAfter L ms refused stock.items stock.most
