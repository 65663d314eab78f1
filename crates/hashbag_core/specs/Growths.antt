-- How a bag grows by insertions in turn: its slots and its distinct values before a growth decide how many slots it has after.
use Rattle.std.specs.Prelude.{◌≡◌, ℕ, ◌+◌, ◌-◌, ◌<◌, Bool, List, [], ◌∷◌, length}
use Rattle.hashbag_table.specs.Tables.{most_used, room, values, grown_slots}
use Rattle.hashbag_core.specs.Bag.{Bag}
use Rattle.hashbag_core.specs.Held.{AreHeld}
use Rattle.hashbag_core.specs.Inserts.{Inserts, InTurn}
use Rattle.hashbag_core.specs.Occurrences.{count, distinct_count}

module _ {T S : Type 0} (eq : T → T → Bool) where
  -- an absent value was inserted into a bag without room, of n slots and s distinct values. There are m = `grown_slots n s` slots now, room is
  -- `most_used m` less s + 1, and m more slots were built
  pub record Grows (before after : Bag T S) : Type 0 where
    pub slots : length after.tables.newer ≡ grown_slots (length before.tables.newer) (distinct_count eq before.items)
    pub room : room after.tables ≡ most_used (length after.tables.newer) - distinct_count eq before.items - 1
    pub built : after.tables.built ≡ before.tables.built + length after.tables.newer

  -- these pairs were inserted into `before` one after the other, as `InTurn` says, which left `after`. Each bag on the way has a Live slot
  -- for each distinct value of its list, and grows only as `Grows` says
  abbrev pub GrowsInTurn : List (T × ℕ) → Bag T S → Bag T S → Type 0
  GrowsInTurn [] before after = after ≡ before
  GrowsInTurn (p ∷ pairs) before after = (middle : Bag T S) × Inserts eq p.0 p.1 before middle × (values before.tables ≡ distinct_count eq before.items)
      × (0 < p.1 → count eq p.0 before.items ≡ 0 → room before.tables ≡ 0 → Grows before middle) × GrowsInTurn pairs middle after

-- the law: if the slots of a bag hold its list, and pairs are inserted in turn, the bag grows as `GrowsInTurn` says
abbrev pub GrowAsListed : {T : Type 0} → Type 0 → (T → T → Bool) → Type 0
GrowAsListed {T = T} S eq = (pairs : List (T × ℕ)) (before after : Bag T S) → AreHeld eq before.items before.tables → InTurn eq pairs before after → GrowsInTurn eq pairs before after
