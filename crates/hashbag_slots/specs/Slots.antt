-- What a table of slots means: a list of slots, the finite map of the Live ones, and the path of a probe. A place is the
-- index of a slot.
use Rattle.std.specs.Prelude.{◌≡◌, ◌≢◌, ℕ, ◌+◌, ◌%◌, ◌^◌, ◌<◌, ◌≤◌, ◌⊎◌, Bool, true, false, List, [], ◌∷◌, take, drop, length, Option, Some, None, slice_index_or, slice_set, count_by}
use Rattle.std.specs.List.{filter_map}
use Rattle.std.specs.Map.{lookup_entry}
use Rattle.hashbag_slots.specs.declared.slots.Slot.{Slot}
use Rattle.hashbag_slots.specs.declared.slots.Slot.TheVariants.{Empty, Removed, Moved, Live}

-- a number of slots: none, or a power of two from 16 to 2^59
abbrev pub IsSlotCount : ℕ → Type 0
IsSlotCount n = (n ≡ 0) ⊎ ((k : ℕ) × (4 ≤ k) × (k ≤ 59) × (n ≡ 2 ^ k))

-- the slot that a probe reads after `step` steps, among n: it begins at the hash modulo n
abbrev pub path_slot : ℕ → ℕ → ℕ → ℕ
path_slot n hash step = (hash + step) % n

module _ {T : Type 0} where
  -- the slot holds a value
  abbrev pub is_live : Slot T → Bool
  is_live Empty = false
  is_live Removed = false
  is_live Moved = false
  is_live (Live v n) = true

  -- the slot held a value that was removed
  abbrev pub is_removed : Slot T → Bool
  is_removed Empty = false
  is_removed Removed = true
  is_removed Moved = false
  is_removed (Live v n) = false

  -- the slot is Live, and its value passes the test
  abbrev pub holds : (T → Bool) → Slot T → Bool
  holds test Empty = false
  holds test Removed = false
  holds test Moved = false
  holds test (Live v n) = test v

  -- how many slots are Live
  abbrev pub live_count : List (Slot T) → ℕ
  live_count ss = count_by is_live ss

  -- how many slots are Removed
  abbrev pub removed_count : List (Slot T) → ℕ
  removed_count ss = count_by is_removed ss

  -- the slot at a place, and Empty past the end
  abbrev pub slot_at : List (Slot T) → ℕ → Slot T
  slot_at ss p = slice_index_or ss p Empty

  -- a value that passes the test is Live at the place
  abbrev pub HoldsAt : (T → Bool) → List (Slot T) → ℕ → Type 0
  HoldsAt test ss p = (p < length ss) × (holds test (slot_at ss p) ≡ true)

  -- no value that passes the test is Live
  abbrev pub IsAbsent : (T → Bool) → List (Slot T) → Type 0
  IsAbsent test ss = (p : ℕ) → p < length ss → holds test (slot_at ss p) ≡ false

  -- the first Live slot from the place `from` on is at p
  pub record IsNextLive (ss : List (Slot T)) (from p : ℕ) : Type 0 where
    pub after : from ≤ p
    pub within : p < length ss
    pub live : is_live (slot_at ss p) ≡ true
    pub between : (q : ℕ) → from ≤ q → q < p → is_live (slot_at ss q) ≡ false

  -- the place is the first on the path of a hash whose slot is not Live
  pub record IsFirstFree (hash : ℕ) (ss : List (Slot T)) (p : ℕ) : Type 0 where
    pub step : ℕ
    pub within : step < length ss
    pub on_path : p ≡ path_slot (length ss) hash step
    pub free : is_live (slot_at ss p) ≡ false
    pub front : (before : ℕ) → before < step → is_live (slot_at ss (path_slot (length ss) hash before)) ≡ true

  -- the value and the count of a Live slot
  abbrev pub slot_entry : Slot T → Option (T × ℕ)
  slot_entry Empty = None
  slot_entry Removed = None
  slot_entry Moved = None
  slot_entry (Live v n) = Some (v, n)

  -- the map: each Live value with its count, in the order of the slots
  abbrev pub entries : List (Slot T) → List (T × ℕ)
  entries ss = filter_map slot_entry ss

  -- the entry of the slot at the place, if there is a place
  abbrev pub entry_at : List (Slot T) → Option ℕ → Option (T × ℕ)
  entry_at ss None = None
  entry_at ss (Some p) = slot_entry (slot_at ss p)

  -- the entry at `place` and the first entry whose value passes the test are the same, or there is neither
  abbrev pub IsEntryPlace : (T → Bool) → List (Slot T) → Option ℕ → Type 0
  IsEntryPlace test ss place = entry_at ss place ≡ lookup_entry test (entries ss)

  -- a probe for a Live value among n slots meets no Empty slot before that value's slot
  pub record IsPathRule (n : ℕ) (hash : T → ℕ) (ss : List (Slot T)) : Type 0 where
    pub path : (v : T) (count step : ℕ) → step < n → slot_at ss (path_slot n (hash v) step) ≡ Live v count
        → (before : ℕ) → before < step → slot_at ss (path_slot n (hash v) before) ≢ Empty

  -- `IsPathRule` for a whole table
  abbrev pub KeepsPaths : (T → ℕ) → List (Slot T) → Type 0
  KeepsPaths hash ss = IsPathRule (length ss) hash ss

  -- no two Live slots have equal values, and each count is at least 1
  pub record IsSet (eq : T → T → Bool) (ss : List (Slot T)) : Type 0 where
    pub apart : (p q : ℕ) (v w : T) (m n : ℕ) → slot_at ss p ≡ Live v m → slot_at ss q ≡ Live w n → eq v w ≡ true → p ≡ q
    pub positive : (p : ℕ) (v : T) (n : ℕ) → slot_at ss p ≡ Live v n → 0 < n

  -- the invariant of a table, over its slots and its two counters
  pub record IsTable (eq : T → T → Bool) (ss : List (Slot T)) (live removed : ℕ) : Type 0 where
    pub count : IsSlotCount (length ss)
    pub live_is : live ≡ live_count ss
    pub removed_is : removed ≡ removed_count ss
    pub distinct : IsSet eq ss

  -- a slot with another count, if it is Live
  abbrev pub recounted : ℕ → Slot T → Slot T
  recounted n Empty = Empty
  recounted n Removed = Removed
  recounted n Moved = Moved
  recounted n (Live v m) = Live v n

  -- a slot with n added to its count, if it is Live
  abbrev pub raised : ℕ → Slot T → Slot T
  raised n Empty = Empty
  raised n Removed = Removed
  raised n Moved = Moved
  raised n (Live v m) = Live v (m + n)

  -- the count of a slot, 0 if it is not Live
  abbrev pub count_in : Slot T → ℕ
  count_in Empty = 0
  count_in Removed = 0
  count_in Moved = 0
  count_in (Live v n) = n

  -- a Live slot with this value and the count of the slot
  abbrev pub with_value : T → Slot T → Slot T
  with_value v s = Live v (count_in s)

  -- one slot that was not Live now holds the value and the count, and all others are as they were
  pub record Places (v : T) (n : ℕ) (old new : List (Slot T)) : Type 0 where
    pub at : ℕ
    pub within : at < length old
    pub free : is_live (slot_at old at) ≡ false
    pub after : new ≡ slice_set old at (Live v n)

  -- the first slot that was not Live on the path of a hash now holds the value and the count, and all other slots are as they were
  abbrev pub PlacesAlong : ℕ → T → ℕ → List (Slot T) → List (Slot T) → Type 0
  PlacesAlong hash v n old new = (p : ℕ) × IsFirstFree hash old p × (new ≡ slice_set old p (Live v n))

  -- `Places`, and the slot was the first on the path of the value's hash that was not Live
  pub record PlacesFirst (hash : T → ℕ) (v : T) (n : ℕ) (old new : List (Slot T)) : Type 0 where
    pub places : Places v n old new
    pub first : IsFirstFree (hash v) old places.at

  -- each of these values, with its count, is put in turn into the first slot on its path that was not Live
  abbrev pub PlacesAll : (T → ℕ) → List (T × ℕ) → List (Slot T) → List (Slot T) → Type 0
  PlacesAll hash [] old new = new ≡ old
  PlacesAll hash (e ∷ es) old new = (next : List (Slot T)) × PlacesFirst hash e.0 e.1 old next × PlacesAll hash es next new

  -- how a carry changes a slot
  abbrev pub moved : Slot T → Slot T
  moved Empty = Empty
  moved Removed = Removed
  moved Moved = Moved
  moved (Live v n) = Moved

  -- `many` slots from the place `from` on are carried, and all others are as they were
  pub record Carries (from many : ℕ) (old new : List (Slot T)) : Type 0 where
    pub same_length : length new ≡ length old
    pub inside : (p : ℕ) → from ≤ p → p < from + many → slot_at new p ≡ moved (slot_at old p)
    pub outside : (p : ℕ) → (p < from) ⊎ (from + many ≤ p) → slot_at new p ≡ slot_at old p

  -- the entries of `many` slots from the place `from` on
  abbrev pub entries_in : ℕ → ℕ → List (Slot T) → List (T × ℕ)
  entries_in from many ss = entries (take many (drop from ss))

  -- no value that is Live in the first table is equal to one that is Live in the second
  abbrev pub AreApart : (T → T → Bool) → List (Slot T) → List (Slot T) → Type 0
  AreApart eq ss ts = (p : ℕ) (v : T) (n : ℕ) → slot_at ss p ≡ Live v n → IsAbsent (eq v) ts
