-- How an addition changes a map and its slots, and when an addition may fail.
use Rattle.std.specs.Prelude.{◌≡◌, ℕ, ◌+◌, ◌<◌, Bool, List, length, None, IsTrue, Result, OnErr, IsOk}
use Rattle.hashbag_slots.specs.declared.slots.Slot.{Slot}
use Rattle.hashbag_slots.specs.declared.slots.Slot.TheVariants.{Live}
use Rattle.hashbag_slots.specs.Slots.{recounted}
use Rattle.hashbag_table.specs.Entries.{entry_of, count_of, with_count, with_instance}
use Rattle.hashbag_table.specs.Table.{Table, IsMapOf, ChangesSlot}
use Rattle.hashbag_table.specs.Tables.{room, Arrives, KeepsRoom}

module _ {T S : Type 0} (eq : T → T → Bool) where
  -- v was inserted into `before`, or its entry was changed. That left `after` with the entries `now`. If v was present, its slot was changed by
  -- `change`. If v was absent, `new_set` says how many entries there are, and `arrives` what the slots are. `room` and `same_room` say how many slots
  -- and how much room there are
  pub record Puts (v : T) (now : List (T × ℕ)) (change : Slot T → Slot T) (before after : Table T S) : Type 0 where
    pub map : IsMapOf eq before now after
    pub new_set : entry_of eq v before.entries ≡ None → length after.entries ≡ length before.entries + 1
    pub slot : ChangesSlot eq v change before after
    pub arrives : entry_of eq v before.entries ≡ None → Arrives before.tables after.tables
    pub room : 0 < room before.tables → KeepsRoom 1 before.tables after.tables
    pub same_room : 0 < count_of eq v before.entries → KeepsRoom 0 before.tables after.tables

  -- n of v were added; the stored instance stays
  abbrev pub Adds : T → ℕ → Table T S → Table T S → Type 0
  Adds v n before after = Puts v (with_count eq v (count_of eq v before.entries + n) before.entries) (recounted (count_of eq v before.entries + n)) before after

  -- v itself was stored, with the count n
  abbrev pub Stores : T → ℕ → Table T S → Table T S → Type 0
  Stores v n before after = Puts v (with_instance eq v n before.entries) (λ _. Live v n) before after

  -- `Adds`, for n of some value that the key names
  abbrev pub AddsNamed : (T → Bool) → ℕ → Table T S → Table T S → Type 0
  AddsNamed names n before after = (v : T) × IsTrue (names v) × Adds v n before after

  -- an insertion of v may fail only if v is absent and there is no room, and then nothing is changed
  pub record FailsIfFull {A E : Type 0} (v : T) (before after : Table T S) (result : Result A E) : Type 0 where
    pub absent : OnErr result (entry_of eq v before.entries ≡ None)
    pub err : OnErr result (after ≡ before)
    pub takes : 0 < room before.tables → IsOk result
