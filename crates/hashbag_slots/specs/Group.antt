-- Sixteen tags at once, as bits.
use Rattle.std.specs.Prelude.{◌≡◌, ◌==◌, ℕ, ◌+◌, ◌<◌, ◌≤◌, ◌&&◌, Bool, false, List, nat_le, nat_lt, if◌then◌else◌}
use Rattle.std.specs.Int.{bit_at}
use Rattle.std.specs.Slice.Scan.{IsFirstPlace}
use Rattle.hashbag_slots.specs.Columns.{Columns, tag_at}
use Rattle.hashbag_slots.specs.Slots.{holds, slot_at}

-- p passes the test, and is not before the place `from`
abbrev pub from_place_on : (ℕ → Bool) → ℕ → ℕ → Bool
from_place_on test from p = nat_le from p && test p

-- bit i is 1 if the place from + i is below `until` and passes the test, and 0 otherwise
abbrev pub IsMaskOf : (ℕ → Bool) → ℕ → ℕ → ℕ → Type 0
IsMaskOf test from until bits = (i : ℕ) → bit_at bits i ≡ (if nat_lt (from + i) until then (if test (from + i) then 1 else 0) else 0)

-- bit i is 1 if the place from + i is not before `first`, is below `until`, and passes the test, and 0 otherwise
abbrev pub IsMaskFrom : (ℕ → Bool) → ℕ → ℕ → ℕ → ℕ → Type 0
IsMaskFrom test from first until bits = IsMaskOf (from_place_on test first) from until bits

-- p is the place of the lowest set bit, if bit 0 is of the place `from`. This is stated by masks: if the bits are the mask of a test, at the places
-- from some `first` to before some `until`, then p is the first of these places that passes the test
abbrev pub IsLowestOf : ℕ → ℕ → ℕ → Type 0
IsLowestOf from bits p = (test : ℕ → Bool) (first until : ℕ) → from ≤ first → IsMaskFrom test from first until bits → IsFirstPlace test first until p

-- if the bits are the mask of a test, at the places from some `first` to before some `until`, then p is before `until`
abbrev pub IsWithinMask : ℕ → ℕ → ℕ → Type 0
IsWithinMask from bits p = (test : ℕ → Bool) (first until : ℕ) → IsMaskFrom test from first until bits → p < until

-- `rest` are the bits without the bit of the place p. This is stated by masks: if the bits are the mask of a test, then `rest` is the mask of the
-- same test at the places after p
abbrev pub IsRestAfter : ℕ → ℕ → ℕ → ℕ → Type 0
IsRestAfter from bits p rest = (test : ℕ → Bool) (first until : ℕ) → IsMaskFrom test from first until bits → IsMaskFrom test from (p + 1) until rest

-- the bits are the mask of the tags that are `tag`, at the places from `from` to before `until`
abbrev pub IsTagMask : List ℕ → ℕ → ℕ → ℕ → ℕ → Type 0
IsTagMask ts tag from until bits = IsMaskOf (λ p. tag_at ts p == tag) from until bits

-- the bits and `ends` are read of the 16 tags from the place `from` on. Bit i is 1 if the tag at from + i is `tag`, and no tag from `from` to there
-- is Empty. `ends` is true if one of the 16 is Empty
abbrev pub IsTagMaskBeforeEmpty : List ℕ → ℕ → ℕ → ℕ → Bool → Type 0
IsTagMaskBeforeEmpty ts tag from bits ends = (stop : ℕ) × IsFirstPlace (λ p. tag_at ts p == 0) from (from + 16) stop × IsTagMask ts tag from stop bits × (ends ≡ nat_lt stop (from + 16))

-- the bits are the mask of the tags that are `tag`, from the place `from` on. No slot that they mark holds a value that passes the test
abbrev pub IsAbsentAmong : {T : Type 0} → (T → Bool) → Columns T → ℕ → ℕ → ℕ → Type 0
IsAbsentAmong test table tag from bits = (until : ℕ) → IsTagMask table.tags tag from until bits → (p : ℕ) → from ≤ p → p < until → tag_at table.tags p ≡ tag → holds test (slot_at table.slots p) ≡ false
