-- Examples, by evaluation. Values are numbers here, and so are their hashes: `hash` is the value itself.
use Rattle.std.specs.Prelude.{◌≡◌, ℕ, ◌<◌, ◌≤◌, ◌==◌, true, false, List, [], ◌∷◌, ◌++◌, replicate, Some, None, refl}
use Rattle.std.proofs.Common.{zero, suc, lit<, lit≤, inl, inr, arith}
use Rattle.hashbag_slots.specs.declared.slots.Slot.{Slot}
use Rattle.hashbag_slots.specs.declared.slots.Slot.TheVariants.{Empty, Removed, Moved, Live}
use Rattle.hashbag_slots.specs.Cells.{cell_at, filled_values}
use Rattle.hashbag_slots.specs.Columns.{fingerprint_of, tag_at, columns, slots_of, IsGuarded, IsReachedAt}
use Rattle.hashbag_slots.specs.Probed.{IsFull}
use Rattle.hashbag_slots.specs.Slots.{IsSlotCount, path_slot, is_live, holds, live_count, removed_count, slot_at, HoldsAt, IsNextLive, entry_at, entries, recounted, raised, count_in, Places, PlacesAll, moved, entries_in}

-- 16 slots. The home of 31 is the last slot, which 15 has, so 31 is in slot 0. The value of slot 1 was removed, and the value of slot 2 was carried
abbrev table : List (Slot ℕ)
table = Live 31 2 ∷ Removed ∷ Moved ∷ replicate 12 Empty ++ Live 15 7 ∷ []

-- ---- numbers of slots

no_slots : IsSlotCount 0
no_slots = inl refl

sixteen : IsSlotCount 16
sixteen = inr (4, lit< tt, lit< tt, refl)

-- ---- the path of a probe

home : path_slot 16 31 0 ≡ 15
home = refl

wrapped : path_slot 16 31 1 ≡ 0
wrapped = refl

-- ---- slots

live : live_count table ≡ 2
live = refl

removed : removed_count table ≡ 1
removed = refl

past_the_end : slot_at table 16 ≡ Empty
past_the_end = refl

held : HoldsAt (λ v. v == 31) table 0
held = (lit< tt, refl)

not_held : holds (λ v. v == 31) (slot_at table 15) ≡ false
not_held = refl

-- from slot 1 on, slot 3 is the first Live one
abbrev four : List (Slot ℕ)
four = Live 5 1 ∷ Removed ∷ Moved ∷ Live 7 2 ∷ []

skipped : (q : ℕ) → 1 ≤ q → q < 3 → is_live (slot_at four q) ≡ false
skipped zero from before = absurd (omega arith)
skipped (suc zero) from before = refl
skipped (suc (suc zero)) from before = refl
skipped (suc (suc (suc q))) from before = absurd (omega arith)

next_live : IsNextLive four 1 3
next_live = record { after = lit≤ tt; within = lit< tt; live = refl; between = skipped }

-- ---- the map

all_entries : entries table ≡ (31, 2) ∷ (15, 7) ∷ []
all_entries = refl

first_three : entries_in 0 3 table ≡ (31, 2) ∷ []
first_three = refl

last_three : entries_in 13 3 table ≡ (15, 7) ∷ []
last_three = refl

entry_there : entry_at table (Some 15) ≡ Some (15, 7)
entry_there = refl

no_place : entry_at table None ≡ None
no_place = refl

-- ---- edits of a slot

with_five : recounted 5 (slot_at table 0) ≡ Live 31 5
with_five = refl

with_three_more : raised 3 (slot_at table 0) ≡ Live 31 5
with_three_more = refl

nothing_to_raise : raised 3 (slot_at table 1) ≡ Removed
nothing_to_raise = refl

two : count_in (slot_at table 0) ≡ 2
two = refl

none : count_in (slot_at table 1) ≡ 0
none = refl

carried_away : moved (slot_at table 0) ≡ Moved
carried_away = refl

stays_removed : moved (slot_at table 1) ≡ Removed
stays_removed = refl

-- the home of 47 is the last slot too. Its path goes past 15 and 31 to the Removed slot, into which it is placed
abbrev after : List (Slot ℕ)
after = Live 31 2 ∷ Live 47 1 ∷ Moved ∷ replicate 12 Empty ++ Live 15 7 ∷ []

abbrev placed : Places 47 1 table after
placed = record { at = 1; within = lit< tt; free = refl; after = refl }

-- the two slots before that one on the path of 47 are Live
passed : (step : ℕ) → step < 2 → is_live (slot_at table (path_slot 16 47 step)) ≡ true
passed zero within = refl
passed (suc zero) within = refl
passed (suc (suc step)) within = absurd (omega arith)

all_placed : PlacesAll (λ v. v) ((47, 1) ∷ []) table after
all_placed = (after, record { places = placed; first = record { step = 2; within = lit< tt; on_path = refl; free = refl; front = passed } }, refl)

-- ---- tags and cells

least_fingerprint : fingerprint_of 31 ≡ 128
least_fingerprint = refl

greatest_fingerprint : fingerprint_of 18446744073709551615 ≡ 255
greatest_fingerprint = refl

no_tag : tag_at (128 ∷ 1 ∷ []) 2 ≡ 0
no_tag = refl

means : slots_of {T = ℕ} (128 ∷ 1 ∷ 2 ∷ 0 ∷ []) (Some (31, 2) ∷ None ∷ None ∷ None ∷ []) ≡ Live 31 2 ∷ Removed ∷ Moved ∷ Empty ∷ []
means = refl

full_places : filled_values {T = ℕ} (5 ∷ 6 ∷ 7 ∷ []) (true ∷ false ∷ true ∷ []) ≡ Some 5 ∷ None ∷ Some 7 ∷ []
full_places = refl

no_cell : cell_at {T = ℕ} (Some 5 ∷ []) 1 ≡ None
no_cell = refl

-- a table without slots needs no guards
no_guards : IsGuarded 0 []
no_guards = record { long = λ some. absurd (omega (arith, some)); guards = λ p from until some. absurd (omega (arith, some)) }

-- tags of Empty slots after the last slot are no guards
unguarded : IsGuarded 16 (replicate 32 0) → ⊥
unguarded guarded = let guard : 0 ≡ 2 = guarded.guards 16 (lit≤ tt) (lit< tt) (lit< tt) in absurd (omega (arith, guard))

-- in a table without slots no slot is free, and each value is absent
full_without_slots : IsFull (λ (v : ℕ). v == 31) 31 (columns [] [])
full_without_slots = (λ p within. refl, λ step before. absurd (omega (arith, before)))

-- in a table that has 31 a probe for 31 finds it, and not for the hash 5
other_hash : IsReachedAt (λ (v : ℕ). v == 31) 5 (columns (128 ∷ []) (Some (31, 2) ∷ [])) → (hash : ℕ → ℕ) × (hash 31 ≡ 5)
other_hash reached = (reached.hash, reached.alike 31 refl)
