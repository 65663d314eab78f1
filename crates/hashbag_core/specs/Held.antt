-- How the two tables of slots of a bag hold its occurrences, and how calls change the tables.
use Rattle.std.specs.Prelude.{◌≡◌, ℕ, ◌+◌, ◌-◌, ◌<◌, ◌≤◌, ◌==◌, if◌then◌else◌, Bool, List, [], length, replicate}
use Rattle.hashbag_slots.specs.declared.slots.Slot.{Slot}
use Rattle.hashbag_slots.specs.declared.slots.Slot.TheVariants.{Empty, Removed, Live}
use Rattle.hashbag_slots.specs.Slots.{recounted}
use Rattle.hashbag_table.specs.Entries.{IsCounted}
use Rattle.hashbag_table.specs.Tables.{Tables, entries_of, IsLeast, ReservesOrStays, Rewrites, KeepsRoom}
use Rattle.hashbag_core.specs.Bag.{Bag, IsBagOf, occurrences}
use Rattle.hashbag_core.specs.Occurrences.{count_named, less_named, count, distinct_count}

module _ {T : Type 0} where
  -- no slots in either table, after k were built
  abbrev pub no_slots_after_building : ℕ → Tables T
  no_slots_after_building k = record { newer = []; waiting = []; older = 0; built = k }

  -- the newer table with its slots Empty, and no older table. No table was built
  abbrev pub cleared : Tables T → Tables T
  cleared t = record { newer = replicate (length t.newer) Empty; waiting = []; older = 0; built = t.built }

  -- the slot of a value, if n occurrences are left: with the count n, and Removed if n is 0
  abbrev pub left_in : ℕ → Slot T → Slot T
  left_in n s = if n == 0 then Removed else recounted n s

module _ {T : Type 0} (eq : T → T → Bool) where
  -- the values with their counts are the Live slots of both tables. No value is in both tables, or twice in one
  pub record AreHeld (items : List T) (tables : Tables T) : Type 0 where
    pub entries : items ≡ occurrences (entries_of tables.newer tables.waiting)
    pub counted : IsCounted eq (entries_of tables.newer tables.waiting)

  -- v was present, and only its slot changed, in whichever table it is. The slot has the count n, or is Removed if n is 0
  abbrev pub Recounts : T → ℕ → Tables T → Tables T → Type 0
  Recounts v n old new = Rewrites (eq v) (left_in n) old new

  -- v itself is stored, once, in the slot of the value that is equal to it, and no other slot is changed
  abbrev pub StoresOver : T → Tables T → Tables T → Type 0
  StoresOver v old new = Rewrites (eq v) (λ _. Live v 1) old new

module _ {T S : Type 0} (eq : T → T → Bool) where
  -- only the slot of v changed. It has the count that v has in `after`
  abbrev pub RecountsAs : T → Bag T S → Bag T S → Type 0
  RecountsAs v before after = Recounts eq v (count eq v after.items) before.tables after.tables

  -- m is the least number of slots with room for the distinct values of the bag
  abbrev pub NeedsSlots : Bag T S → ℕ → Type 0
  NeedsSlots bag m = IsLeast 0 (distinct_count eq bag.items) m

  -- m is the least number of slots, not below the number of newer slots, with room for the distinct values of the bag and n more
  abbrev pub IsSpareFor : ℕ → Bag T S → ℕ → Type 0
  IsSpareFor n bag m = IsLeast (length bag.tables.newer) (distinct_count eq bag.items + n) m

  -- `ReservesOrStays` for the distinct values and the tables of a bag
  abbrev pub ReservesSlots : ℕ → Bag T S → Bag T S → Type 0
  ReservesSlots n before after = ReservesOrStays n (distinct_count eq before.items) before.tables after.tables

-- the total of the bag and n more is within its limit
abbrev pub FitsLimit : {T S : Type 0} → ℕ → Bag T S → Type 0
FitsLimit n bag = length bag.items + n ≤ bag.most

-- one table of m slots was built
abbrev pub BuildsSlots : {T S : Type 0} → ℕ → Bag T S → Bag T S → Type 0
BuildsSlots m before after = after.tables.built ≡ before.tables.built + m

-- `after` is `before` without n occurrences of the value that a key names, or without all if they are fewer. `left`: its list. `slot`: the
-- slot of the value, if it was present. `none`: nothing changed, if it was absent. `room`: there are as many slots and no less room
pub record HasFewer {T S : Type 0} (eq : T → T → Bool) (names : T → Bool) (n : ℕ) (before after : Bag T S) : Type 0 where
  pub left : IsBagOf eq before (less_named names n before.items) after
  pub slot : 0 < count_named names before.items → Rewrites names (left_in (count_named names before.items - n)) before.tables after.tables
  pub none : count_named names before.items ≡ 0 → after ≡ before
  pub room : KeepsRoom 0 before.tables after.tables
