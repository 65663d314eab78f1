-- How a table of slots is stored: a tag for each slot, which is a byte, and a row of cells. This file says which slots the tags and the cells stand
-- for, and what a probe relies on.
use Rattle.std.specs.Prelude.{◌≡◌, ℕ, ◌+◌, ◌/◌, ◌^◌, ◌<◌, ◌≤◌, Bool, true, List, [], ◌∷◌, length, take, Option, Some, None, if◌then◌else◌, nat_eq, slice_index_or}
use Rattle.std.specs.HashMap.Lent.{HashMembers}
use Rattle.std.specs.declared.hash.Hasher as hasher
use Rattle.std.specs.declared.hash.BuildHasher as builder
use Rattle.hashbag_slots.specs.Hashing.{hash_under}
use Rattle.hashbag_slots.specs.declared.slots.Slot.{Slot}
use Rattle.hashbag_slots.specs.declared.slots.Slot.TheVariants.{Empty, Removed, Moved, Live}
use Rattle.hashbag_slots.specs.Cells.{cell_at}
use Rattle.hashbag_slots.specs.Slots.{path_slot, slot_at, live_count, removed_count, entries_in, KeepsPaths, PlacesAlong, PlacesAll, Carries, AreApart, IsTable}

-- the tag of a Live slot, its fingerprint: 128 plus the top 7 bits of its value's hash
abbrev pub fingerprint_of : ℕ → ℕ
fingerprint_of hash = hash / 2 ^ 57 + 128

-- the tag at a place, and 0 past the end
abbrev pub tag_at : List ℕ → ℕ → ℕ
tag_at ts p = slice_index_or ts p 0

-- the first tag of a Live slot from the place `from` on is at p
abbrev pub IsNextLiveTag : List ℕ → ℕ → ℕ → Type 0
IsNextLiveTag ts from p = (from ≤ p) × (p < length ts) × (128 ≤ tag_at ts p) × ((q : ℕ) → from ≤ q → q < p → tag_at ts q < 128)

-- the first `many` slots on the path of a hash are Live, by their tags
abbrev pub AreLiveTags : ℕ → List ℕ → ℕ → Type 0
AreLiveTags hash ts many = (step : ℕ) → step < many → 128 ≤ tag_at ts (path_slot (length ts) hash step)

-- the place is on the path of a hash, and all slots before it on that path are Live
abbrev pub IsPastLiveTags : ℕ → List ℕ → ℕ → Type 0
IsPastLiveTags hash ts p = (step : ℕ) × (step < length ts) × (p ≡ path_slot (length ts) hash step) × AreLiveTags hash ts step

-- the tags of `slots` slots come first. If there is a slot, 16 tags of no slot follow, the guards: all are 2, which is Moved
pub record IsGuarded (slots : ℕ) (tags : List ℕ) : Type 0 where
  pub long : 0 < slots → length tags ≡ slots + 16
  pub guards : (p : ℕ) → slots ≤ p → p < slots + 16 → 0 < slots → tag_at tags p ≡ 2

-- what contracts see of a table: its slots in the order of places, and their tags. The tags are there for `IsReached` and `IsFull`
pub record Columns (T : Type 0) : Type 0 where
  pub slots : List (Slot T)
  pub tags : List ℕ

module _ {T : Type 0} where
  -- the slot that a tag and a cell stand for. If the cell has a value, the slot is Live. If the cell is empty, the tag 1 is Removed, 2 is Moved, and
  -- any other is Empty
  abbrev pub slot_of : ℕ → Option (T × ℕ) → Slot T
  slot_of tag None = if nat_eq tag 1 then Removed else if nat_eq tag 2 then Moved else Empty
  slot_of tag (Some e) = Live e.0 e.1

  -- the slots that tags and cells stand for, place by place
  abbrev pub slots_of : List ℕ → List (Option (T × ℕ)) → List (Slot T)
  slots_of [] cs = []
  slots_of (t ∷ ts) [] = []
  slots_of (t ∷ ts) (c ∷ cs) = slot_of t c ∷ slots_of ts cs

  -- the table that tags and cells stand for, with its tags
  abbrev pub columns : List ℕ → List (Option (T × ℕ)) → Columns T
  columns ts cs = record { slots = slots_of ts cs; tags = ts }

  -- a cell has a value exactly if the tag is 128 or more
  pub record Agree (ts : List ℕ) (cs : List (Option (T × ℕ))) : Type 0 where
    pub same_length : length ts ≡ length cs
    pub filled : (p : ℕ) → 128 ≤ tag_at ts p → (e : T × ℕ) × (cell_at cs p ≡ Some e)
    pub tagged : (p : ℕ) (e : T × ℕ) → cell_at cs p ≡ Some e → 128 ≤ tag_at ts p

  -- from the place `from` on, a cell has a value exactly if the tag is 128 or more. All cells before it are empty, whatever their tags
  pub record AgreeFrom (from : ℕ) (ts : List ℕ) (cs : List (Option (T × ℕ))) : Type 0 where
    pub same_length : length ts ≡ length cs
    pub filled : (p : ℕ) → from ≤ p → 128 ≤ tag_at ts p → (e : T × ℕ) × (cell_at cs p ≡ Some e)
    pub tagged : (p : ℕ) (e : T × ℕ) → cell_at cs p ≡ Some e → (from ≤ p) × (128 ≤ tag_at ts p)

  -- each Live value of a table is found under this hash. A probe for the value meets no Empty slot before the slot of the value. The tag of that slot
  -- is the fingerprint of the value's hash. Each call on a table requires and ensures `IsReached`
  pub record IsReached (hash : T → ℕ) (table : Columns T) : Type 0 where
    pub paths : KeepsPaths hash table.slots
    pub fingerprints : (p : ℕ) (v : T) (n : ℕ) → slot_at table.slots p ≡ Live v n → tag_at table.tags p ≡ fingerprint_of (hash v)

  -- a probe for what passes the test finds it: under some hash each Live value of the table is found, and all that pass the test have the hash h
  pub record IsReachedAt (test : T → Bool) (h : ℕ) (table : Columns T) : Type 0 where
    pub hash : T → ℕ
    pub alike : (v : T) → test v ≡ true → hash v ≡ h
    pub reached : IsReached hash table

  -- `IsReached` for the table that tags and cells stand for
  abbrev pub AreReached : (T → ℕ) → List ℕ → List (Option (T × ℕ)) → Type 0
  AreReached hash ts cs = IsReached hash (columns ts cs)

  -- `PlacesAlong` for the slots of two tables and the hash of the value
  abbrev pub PlacesBy : (T → ℕ) → T → ℕ → Columns T → Columns T → Type 0
  PlacesBy hash v n old new = PlacesAlong (hash v) v n old.slots new.slots

  -- `many` slots of an older table, from the place `from` on, are carried into a newer one. Each Live value in turn is placed in the newer table, in
  -- the first slot on its path that was not Live. Its slot in the older table becomes Moved
  pub record CarriesInto (eq : T → T → Bool) (hash : T → ℕ) (from many : ℕ) (newer older newer' older' : Columns T) : Type 0 where
    pub placed : PlacesAll hash (entries_in from many older.slots) newer.slots newer'.slots
    pub left : Carries from many older.slots older'.slots
    pub apart : AreApart eq older'.slots newer'.slots
    pub sum : live_count newer'.slots + live_count older'.slots ≡ live_count newer.slots + live_count older.slots
    pub removed : removed_count newer'.slots ≤ removed_count newer.slots
    pub slots : length newer'.slots ≡ length newer.slots
    pub reached : IsReached hash newer'
    pub older_reached : (h : T → ℕ) → IsReached h older → IsReached h older'

  -- `CarriesInto` by the equality and the hash of a key's members, the hash under the state s
  abbrev pub CarriesUnder : {S H : Type 0} → HashMembers T → builder.Ghosts S H → hasher.Ghosts H → S → ℕ → ℕ → Columns T → Columns T → Columns T → Columns T → Type 0
  CarriesUnder key b h s from many newer older newer' older' = CarriesInto key.eq (hash_under key.hash_input b h s) from many newer older newer' older'

  -- equal values have one hash
  abbrev pub HashesAlike : (T → T → Bool) → (T → ℕ) → Type 0
  HashesAlike eq hash = (v w : T) → eq v w ≡ true → hash v ≡ hash w

  -- the invariant of a table, over its columns and its two counters
  pub record IsColumns (eq : T → T → Bool) (ts : List ℕ) (cs : List (Option (T × ℕ))) (live removed : ℕ) : Type 0 where
    pub agree : Agree ts cs
    pub table : IsTable eq (slots_of ts cs) live removed

  -- the invariant of a table, over what it stores: `IsColumns` of the tags of its slots, after which the guards come
  pub record IsStored (eq : T → T → Bool) (slots : ℕ) (tags : List ℕ) (cs : List (Option (T × ℕ))) (live removed : ℕ) : Type 0 where
    pub shown : IsColumns eq (take slots tags) cs live removed
    pub guarded : IsGuarded slots tags
