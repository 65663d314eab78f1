-- Two tables of slots as one map: the newer one, and the slots of the older one that wait to be carried.
use Rattle.std.specs.Prelude.{◌≡◌, ◌≢◌, ℕ, ◌+◌, ◌-◌, ◌*◌, ◌/◌, ◌^◌, ◌<◌, ◌≤◌, Bool, true, false, List, [], ◌∷◌, ◌++◌, Option, Some, None, drop, length, replicate, if◌then◌else◌, nat_eq, nat_le, ◌⊎◌, slice_index, slice_set}
use Rattle.std.specs.HashMap.Lent.{HashMembers}
use Rattle.std.specs.declared.hash.Hasher as hasher
use Rattle.std.specs.declared.hash.BuildHasher as builder
use Rattle.hashbag_slots.specs.Hashing.{hash_under}
use Rattle.hashbag_slots.specs.declared.slots.Slot.{Slot}
use Rattle.hashbag_slots.specs.declared.slots.Slot.TheVariants.{Empty, Moved}
use Rattle.hashbag_slots.specs.Slots.{IsSlotCount, is_live, live_count, removed_count, slot_at, entries, AreApart, HoldsAt, slot_entry}
use Rattle.hashbag_slots.specs.Columns.{Columns, IsReached}
use Rattle.std.specs.List.Sorted.{IsPermutation}
use Rattle.hashbag_table.specs.declared.table.Spot.{Spot}
use Rattle.hashbag_table.specs.declared.table.Spot.TheVariants.{Newer, Waiting}
use Rattle.hashbag_table.specs.Entries.{IsCounted}

-- two tables. `newer`: the slots of the newer table in the order of places. `waiting`: the slots of the older table that wait to be carried. `older`:
-- how many slots the older table has. `built`: the sum of the slots of all tables that were ever the newer one
pub record Tables (T : Type 0) : Type 0 where
  pub newer : List (Slot T)
  pub waiting : List (Slot T)
  pub older : ℕ
  pub built : ℕ

-- how many of n slots may be Live or Removed before a table grows
abbrev pub most_used : ℕ → ℕ
most_used n = 3 * n / 4

-- how many slots the new table of a growth has, if there were n slots and s distinct values
abbrev pub grown_slots : ℕ → ℕ → ℕ
grown_slots n s = if nat_eq n 0 then 16 else if nat_le (8 * s) (3 * n) then n else 2 * n

-- m is the least number of slots, not below n, of which k may be Live
pub record IsLeast (n k m : ℕ) : Type 0 where
  pub count : IsSlotCount m
  pub from : n ≤ m
  pub enough : k ≤ most_used m
  pub least : (other : ℕ) → IsSlotCount other → n ≤ other → k ≤ most_used other → m ≤ other

-- a table of m slots may follow a table of n slots with s values. It has room. The insertions that use up this room carry all n slots, 16 each. It is
-- no smaller than the former table
pub record Roomy (n s m : ℕ) : Type 0 where
  pub some : s < most_used m
  pub carries : n ≤ 16 * (most_used m - s)
  pub smaller : n ≤ m

module _ {T : Type 0} where
  -- no value of these slots was carried to another table
  abbrev pub NoneMoved : List (Slot T) → Type 0
  NoneMoved ss = (p : ℕ) → slot_at ss p ≢ Moved

  -- at most k slots changed, each from not Live to Live
  pub record Fills (k : ℕ) (old new : List (Slot T)) : Type 0 where
    pub same_length : length new ≡ length old
    pub places : List ℕ
    pub at_most : length places ≤ k
    pub each : (p : ℕ) → (slot_at new p ≡ slot_at old p) ⊎ (((i : ℕ) × (i < length places) × (slice_index places i ≡ p)) × (is_live (slot_at old p) ≡ false) × (is_live (slot_at new p) ≡ true))

  -- how many absent values can be inserted before a growth
  abbrev pub room_of : List (Slot T) → List (Slot T) → ℕ
  room_of newer waiting = most_used (length newer) - live_count newer - removed_count newer - live_count waiting

  -- the map of both tables
  abbrev pub entries_of : List (Slot T) → List (Slot T) → List (T × ℕ)
  entries_of newer waiting = entries newer ++ entries waiting

  -- two tables; the first `carried_to` slots of the older one were carried. A probe of a table finds each of its values. No value is Live in both. No
  -- slot of the newer table is Moved. No carried slot is Live. The values of both tables and the Removed slots of the newer one are together at most
  -- its `most_used`
  pub record AreTables (eq : T → T → Bool) (hash : T → ℕ) (newer older : Columns T) (carried_to : ℕ) : Type 0 where
    pub newer_reached : IsReached hash newer
    pub older_reached : IsReached hash older
    pub apart : AreApart eq older.slots newer.slots
    pub unmoved : NoneMoved newer.slots
    pub carried_within : carried_to ≤ length older.slots
    pub carried_not_live : (p : ℕ) → p < carried_to → is_live (slot_at older.slots p) ≡ false
    pub fits : live_count newer.slots + removed_count newer.slots + live_count (drop carried_to older.slots) ≤ most_used (length newer.slots)

  -- what holds between two calls. The waiting slots are at most 16 times the room. There are none, or at least 16 fewer than newer slots. If all
  -- slots of the older table were carried, it has no slots
  pub record IsTables (eq : T → T → Bool) (hash : T → ℕ) (newer older : Columns T) (carried_to : ℕ) : Type 0 where
    pub tables : AreTables eq hash newer older carried_to
    pub counted : IsCounted eq (entries_of newer.slots (drop carried_to older.slots))
    pub carries : length (drop carried_to older.slots) ≤ 16 * room_of newer.slots (drop carried_to older.slots)
    pub smaller : (drop carried_to older.slots ≡ []) ⊎ (16 + length (drop carried_to older.slots) ≤ length newer.slots)
    pub freed : length older.slots ≤ carried_to → length older.slots ≡ 0

  -- at least k absent values can be placed without a carry or a growth: if k isn't 0, the older table has no slots, and the newer one has room for k
  pub record IsAtOnce (newer older : List (Slot T)) (k : ℕ) : Type 0 where
    pub alone : 0 < k → length older ≡ 0
    pub fits : 0 < k → k + live_count newer + removed_count newer ≤ most_used (length newer)

  -- three numbers that are kept with two tables. `edge`: 0, or a place up to `carried_to`, and the slot before it is Empty. `quick`: if it is less than
  -- 2 ^ 16, it is the number of newer slots less 1, and the older table has no slots. `at_once`: as `IsAtOnce` says
  pub record IsHinted (newer older : List (Slot T)) (carried_to edge quick at_once : ℕ) : Type 0 where
    pub quick_is : quick < 2 ^ 16 → (length newer ≡ quick + 1) × (length older ≡ 0)
    pub edge_within : edge ≤ carried_to
    pub edge_ends : 0 < edge → slot_at older (edge - 1) ≡ Empty
    pub places : IsAtOnce newer older at_once

  -- what holds between two calls, of both tables and of the three numbers
  pub record IsHeld (eq : T → T → Bool) (hash : T → ℕ) (newer older : Columns T) (carried_to edge quick at_once : ℕ) : Type 0 where
    pub kept : IsTables eq hash newer older carried_to
    pub hints : IsHinted newer.slots older.slots carried_to edge quick at_once

  -- the table `newer` may become the newer one. Then the slots `former` are the older table, whose first `many` slots are carried at once. A probe
  -- of `newer` finds each of its values. No more of its slots are used than `most_used` allows, with the values of `former`. The slots that wait then
  -- are at most 16 times the room, and there are none or at least 16 fewer than slots of `newer`
  pub record MayAdopt (eq : T → T → Bool) (hash : T → ℕ) (newer : Columns T) (former : List (Slot T)) (many : ℕ) : Type 0 where
    pub reached : IsReached hash newer
    pub apart : AreApart eq former newer.slots
    pub unmoved : NoneMoved newer.slots
    pub counted : IsCounted eq (entries_of newer.slots former)
    pub fits : live_count newer.slots + removed_count newer.slots + live_count former ≤ most_used (length newer.slots)
    pub carries : length former - many ≤ 16 * room_of newer.slots former
    pub smaller : (length former ≤ many) ⊎ (16 + (length former - many) ≤ length newer.slots)

  -- `AreTables` by the equality and the hash of a key's members, the hash under the state s
  abbrev pub AreTablesUnder : {S H : Type 0} → HashMembers T → builder.Ghosts S H → hasher.Ghosts H → S → Columns T → Columns T → ℕ → Type 0
  AreTablesUnder key b h s newer older carried_to = AreTables key.eq (hash_under key.hash_input b h s) newer older carried_to

  -- `MayAdopt` by the equality and the hash of a key's members, the hash under the state s
  abbrev pub MayAdoptUnder : {S H : Type 0} → HashMembers T → builder.Ghosts S H → hasher.Ghosts H → S → Columns T → List (Slot T) → ℕ → Type 0
  MayAdoptUnder key b h s newer former many = MayAdopt key.eq (hash_under key.hash_input b h s) newer former many

  -- the next k waiting slots were carried: the values of the Live ones are now in slots of the newer table that were not Live
  pub record Carried (k : ℕ) (newer waiting newer_after waiting_after : List (Slot T)) : Type 0 where
    pub fills : Fills k newer newer_after
    pub waits : waiting_after ≡ drop k waiting
    pub entries : IsPermutation (entries_of newer waiting) (entries_of newer_after waiting_after)
    pub live : live_count newer_after + live_count waiting_after ≡ live_count newer + live_count waiting
    pub removed : removed_count newer_after ≤ removed_count newer

  -- `Carried` for two tables. The older table's slots from the place `from` on wait before, and its slots from the place `to` on wait after
  abbrev pub CarriedOn : ℕ → ℕ → ℕ → Columns T → Columns T → Columns T → Columns T → Type 0
  CarriedOn k from to newer older newer' older' = Carried k newer.slots (drop from older.slots) newer'.slots (drop to older'.slots)

module _ {T : Type 0} where
  -- how many distinct values there are
  abbrev pub values : Tables T → ℕ
  values t = live_count t.newer + live_count t.waiting

  -- how many absent values can be inserted before a table grows
  abbrev pub room : Tables T → ℕ
  room t = room_of t.newer t.waiting

  -- there are as many slots as before, no table was built, and room is at most k lower
  pub record KeepsRoom (k : ℕ) (old new : Tables T) : Type 0 where
    pub slots : length new.newer ≡ length old.newer
    pub room : room old ≤ room new + k
    pub built : new.built ≡ old.built

  -- at most k of the slots `newer` became Live, and the first 16 of the slots `waiting` were carried
  pub record Settles (k : ℕ) (newer waiting : List (Slot T)) (new : Tables T) : Type 0 where
    pub fills : Fills k newer new.newer
    pub waits : new.waiting ≡ drop 16 waiting

  -- the slots of a new table, all Empty
  abbrev pub fresh : Tables T → List (Slot T)
  fresh t = replicate (grown_slots (length t.newer) (values t)) Empty

  -- if there was room, no table was built; else one was built, and it is the newer one now
  pub record BuildsTable (old new : Tables T) : Type 0 where
    pub with_room : 0 < room old → new.built ≡ old.built
    pub grown : room old ≡ 0 → new.built ≡ old.built + length new.newer

  -- the tables after the carry or the growth that an absent value causes, before it is placed. They have room
  pub record IsReady (old new : Tables T) : Type 0 where
    pub with_room : 0 < room old → Carried 16 old.newer old.waiting new.newer new.waiting
    pub grown : room old ≡ 0 → Carried 16 (fresh old) old.newer new.newer new.waiting × (old.waiting ≡ [])
    pub some : 0 < room new
    pub carries : length new.waiting ≤ 16 * (room new - 1)
    pub built : BuildsTable old new

  -- What the insertion of an absent value leaves. If there was room: at most 17 newer slots became Live, and the others are the same; the first 16
  -- waiting slots were carried; room is at most 1 lower; no table was built. If there was none: a new table of `grown_slots` was built, of which at
  -- most 17 slots became Live, and the others are Empty. The former newer table waits, without its first 16 slots. Room is the `most_used` of the new
  -- table less all values.
  pub record Arrives (old new : Tables T) : Type 0 where
    pub with_room : 0 < room old → Settles 17 old.newer old.waiting new
    pub grown : room old ≡ 0 → Settles 17 (fresh old) old.newer new
    pub room_kept : 0 < room old → room old ≤ room new + 1
    pub room_grown : room old ≡ 0 → room new ≡ most_used (length new.newer) - values old - 1
    pub built : BuildsTable old new

  -- the newer table has the least number of slots, not below n, of which k may be Live
  abbrev pub HasLeast : ℕ → ℕ → Tables T → Type 0
  HasLeast n k t = IsLeast n k (length t.newer)

  -- there is one table: no slot waits, and room is `most_used` of the table less the values
  pub record IsPacked (t : Tables T) : Type 0 where
    pub waiting : t.waiting ≡ []
    pub room : room t ≡ most_used (length t.newer) - values t

  -- one table replaced both: the least one, with no fewer than n slots, that has room for k values. Its slots count as built
  pub record Packs (n k : ℕ) (old new : Tables T) : Type 0 where
    pub least : HasLeast n k new
    pub packed : IsPacked new
    pub built : new.built ≡ old.built + length new.newer

  -- room for n values more than the k present ones. Either there was room for n, and the tables are unchanged. Or there was less, and the least table
  -- with that room replaced both
  abbrev pub ReservesOrStays : ℕ → ℕ → Tables T → Tables T → Type 0
  ReservesOrStays n k old new = ((n ≤ room old) × (new ≡ old)) ⊎ ((room old < n) × Packs (length old.newer) (k + n) old new)

  -- no more slots than k values need. Either the newer table was no larger than the least one for k values, and the tables are unchanged. Or it was
  -- larger, and that least table replaced both
  abbrev pub ShrinksOrStays : ℕ → Tables T → Tables T → Type 0
  ShrinksOrStays k old new = (((m : ℕ) → IsLeast 0 k m → length old.newer ≤ m) × (new ≡ old)) ⊎ ((length new.newer < length old.newer) × Packs 0 k old new)

  -- P holds if the newer table has no more slots than the least one for k values
  abbrev pub IfNoLarger : ℕ → Tables T → Type 0 → Type 0
  IfNoLarger k t P = (m : ℕ) → IsLeast 0 k m → length t.newer ≤ m → P

  -- `Carried` for the newer and the waiting slots of two `Tables`
  abbrev pub CarriesNext : ℕ → Tables T → Tables T → Type 0
  CarriesNext k old new = Carried k old.newer old.waiting new.newer new.waiting

  -- the values of both tables and the Removed slots of the newer one are together at most its `most_used`
  abbrev pub IsNotOverfull : Tables T → Type 0
  IsNotOverfull t = live_count t.newer + removed_count t.newer + live_count t.waiting ≤ most_used (length t.newer)

  -- the slot at a spot
  abbrev pub slot_in : Tables T → Spot → Slot T
  slot_in t (Newer p) = slot_at t.newer p
  slot_in t (Waiting p) = slot_at t.waiting p

  -- a value that passes the test is Live at the spot
  abbrev pub HoldsIn : (T → Bool) → Tables T → Spot → Type 0
  HoldsIn test t (Newer p) = HoldsAt test t.newer p
  HoldsIn test t (Waiting p) = HoldsAt test t.waiting p

  -- the entry of the slot at the spot, if there is a spot
  abbrev pub entry_in : Tables T → Option Spot → Option (T × ℕ)
  entry_in t None = None
  entry_in t (Some spot) = slot_entry (slot_in t spot)

  -- P holds of the entry of the slot at the spot, if that is Live
  abbrev pub IfEntry : Tables T → Spot → (T × ℕ → Type 0) → Type 0
  IfEntry t spot P = (e : T × ℕ) → entry_in t (Some spot) ≡ Some e → P e

  -- the slot at the spot is s now, and all others are as they were
  abbrev pub Writes : Spot → Slot T → Tables T → Tables T → Type 0
  Writes (Newer p) s old new = (new.newer ≡ slice_set old.newer p s) × (new.waiting ≡ old.waiting) × (new.built ≡ old.built)
  Writes (Waiting p) s old new = (new.newer ≡ old.newer) × (new.waiting ≡ slice_set old.waiting p s) × (new.built ≡ old.built)

  -- one slot, of either table, whose value passes the test, was changed by `change`. All other slots are as they were
  pub record Rewrites (test : T → Bool) (change : Slot T → Slot T) (old new : Tables T) : Type 0 where
    pub spot : Spot
    pub held : HoldsIn test old spot
    pub after : Writes spot (change (slot_in old spot)) old new

-- the entry e of a map is replaced by the entries `now`
pub record Swaps {T : Type 0} (es new : List (T × ℕ)) (e : T × ℕ) (now : List (T × ℕ)) : Type 0 where
  pub rest : List (T × ℕ)
  pub before : IsPermutation es (e ∷ rest)
  pub after : IsPermutation (now ++ rest) new
