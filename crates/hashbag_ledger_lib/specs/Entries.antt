-- What becomes of each movement. The balance, the refusals and the history of an article follow from these entries.
use Rattle.std.specs.Prelude.{◌≡◌, ℕ, if◌then◌else◌, Bool, List, [], ◌∷◌, ◌++◌}
use Rattle.std.specs.declared.cmp.Ordering.{Ordering}
use Rattle.hashbag_core.specs.Bag.{Bag}
use Rattle.hashbag_csv.specs.Quantities.{IsBalance}
use Rattle.hashbag_ledger_lib.specs.declared.movements.Entry.{Entry}
use Rattle.hashbag_ledger_lib.specs.declared.movements.Movement.{Movement}
use Rattle.hashbag_ledger_lib.specs.declared.movements.Outcome.{Outcome}
use Rattle.hashbag_ledger_lib.specs.declared.movements.Outcome.TheVariants.{Entered, Refused}
use Rattle.hashbag_ledger_lib.specs.declared.movements.Place.{Place}
use Rattle.hashbag_ledger_lib.specs.declared.movements.Refusal.{Refusal}
use Rattle.hashbag_ledger_lib.specs.Ledger.{going, there, asks_too_much, entered_of, refused_of, in_the_end, Leaves}
use Rattle.hashbag_ledger_lib.specs.Settled.{listed, IsAfter, IsPastWithin}

module _ {T : Type 0} where
  -- the refusals `later`, and before them the refusal of the movement m, if m was refused
  abbrev pub refusal_before : Movement T → Outcome → List (Refusal T) → List (Refusal T)
  refusal_before m (Entered n) later = later
  refusal_before m (Refused n) later = (record { place = m.place; article = m.article; asked = going m.change; there = n }) ∷ later

  -- the refusals among these entries, in turn
  abbrev pub refusals_in : List (Entry T) → List (Refusal T)
  refusals_in [] = []
  refusals_in (e ∷ es) = refusal_before e.movement e.outcome (refusals_in es)

module _ {T : Type 0} (eq : T → T → Bool) where
  module _ (start : T → ℕ) where
    -- what becomes of the movement m after the movements `entered`
    abbrev pub outcome_after : List (Movement T) → Movement T → Outcome
    outcome_after entered m = if asks_too_much eq start entered m then Refused (there eq start entered m.article) else Entered (there eq start (entered ++ m ∷ []) m.article)

    -- the movements ms, each with what becomes of it, after the movements `entered`
    abbrev pub entries_after : List (Movement T) → List (Movement T) → List (Entry T)
    entries_after entered [] = []
    entries_after entered (m ∷ ms) = (record { movement = m; outcome = outcome_after entered m }) ∷ entries_after (if asks_too_much eq start entered m then entered else entered ++ m ∷ []) ms

    -- the movements ms, each with what becomes of it
    abbrev pub entries_of : List (Movement T) → List (Entry T)
    entries_of ms = entries_after [] ms

  -- the movements ms came, in turn, to a stock that began as L, and left this stock
  abbrev pub IsStockAfter : {S : Type 0} → List (T × ℕ) → List (Movement T) → Bag T S → Type 0
  IsStockAfter L ms stock = IsAfter eq L ms (refused_of eq (listed eq L) ms) stock.items stock.most

  -- after ms the movement m came: it left this stock, and had this outcome
  pub record TakesNext {S : Type 0} (L : List (T × ℕ)) (ms : List (Movement T)) (m : Movement T) (stock : Bag T S) (outcome : Outcome) : Type 0 where
    pub left : IsStockAfter L (ms ++ m ∷ []) stock
    pub became : outcome ≡ outcome_after (listed eq L) (entered_of eq (listed eq L) ms) m

  -- what the movements ms leave of a stock that began as L, and what became of each movement; no total passes `most`
  pub record IsBooked (cmp : T → T → Ordering) (most : ℕ) (L : List (T × ℕ)) (ms : List (Movement T)) (balance : List (T × ℕ)) (entries : List (Entry T)) : Type 0 where
    pub each : entries ≡ entries_of (listed eq L) ms
    pub rows : IsBalance eq cmp (in_the_end eq (listed eq L) ms) balance
    pub leaves : Leaves eq (listed eq L) ms (listed eq balance)
    pub fit : (p : Place) → ¬ (IsPastWithin eq most L ms p)
