-- Examples, by evaluation. Values are numbers here.
use Rattle.std.specs.Prelude.{◌≡◌, ℕ, ◌<◌, ◌≤◌, ◌^◌, List, [], ◌∷◌, ◌++◌, replicate, Some, None, refl}
use Rattle.std.proofs.Common.{suc, lit<, inl, inr, arith}
use Rattle.std.proofs.lemmas.Bool.{cases_lt}
use lib.Pow.{pow_mono}
use Rattle.hashbag_slots.specs.declared.slots.Slot.{Slot}
use Rattle.hashbag_slots.specs.declared.slots.Slot.TheVariants.{Empty, Removed, Live}
use Rattle.hashbag_table.specs.declared.table.Spot.TheVariants.{Newer, Waiting}
use Rattle.hashbag_table.specs.Tables.{most_used, grown_slots, IsLeast, Tables, room, values, entries_of, slot_in, entry_in, IsPacked, IsAtOnce, IsHinted, fresh}

-- 32 slots of the newer table, one Live and one Removed; and 16 of the older one, of which the last two still wait
abbrev newer : List (Slot ℕ)
newer = replicate 5 Empty ++ Live 5 2 ∷ Removed ∷ replicate 25 Empty

abbrev waiting : List (Slot ℕ)
waiting = Empty ∷ Live 15 7 ∷ []

abbrev tables : Tables ℕ
tables = record { newer = newer; waiting = waiting; older = 16; built = 48 }

-- ---- numbers of slots

no_slots : most_used 0 ≡ 0
no_slots = refl

limit_of_16 : most_used 16 ≡ 12
limit_of_16 = refl

limit_of_32 : most_used 32 ≡ 24
limit_of_32 = refl

limit_of_the_greatest : most_used (2 ^ 59) ≡ 432345564227567616
limit_of_the_greatest = refl

first_growth : grown_slots 0 0 ≡ 16
first_growth = refl

-- 12 values in 16 slots: more than three eighths
second_growth : grown_slots 16 12 ≡ 32
second_growth = refl

-- 12 of 32 slots are three eighths: the others were Removed
growth_that_keeps : grown_slots 32 12 ≡ 32
growth_that_keeps = refl

growth_that_doubles : grown_slots 32 13 ≡ 64
growth_that_doubles = refl

-- ---- the least numbers of slots

least_for_none : IsLeast 0 0 0
least_for_none = record { count = inl refl; from = omega arith; enough = omega arith; least = λ other c from enough. from }

least_for_12 : IsLeast 0 12 16
least_for_12 = record {
  count = inr (4, lit< tt, lit< tt, refl);
  from = omega arith;
  enough = omega arith;
  least = λ other c from enough.
      elim c [
        | inl z ↦ absurd (omega (arith, z, enough))
        | inr w ↦ let p : 2 ^ 4 ≤ 2 ^ w.0 = pow_mono {i = 4} {j = w.0} w.1 in let e = w.3 in omega (arith, p, e)
      ];
}

-- if 2^j slots are too few, and twice as many are enough
twice : (j k : ℕ) → 4 ≤ j → j < 59 → most_used (2 ^ j) < k → k ≤ most_used (2 ^ suc j) → IsLeast 0 k (2 ^ suc j)
twice j k low high short long = record {
  count = inr (suc j, omega (arith, low), omega (arith, high), refl);
  from = omega arith;
  enough = long;
  least = λ other c from enough.
      elim c [
        | inl z ↦ absurd (omega (arith, z, enough, short))
        | inr w ↦ elim (cases_lt j w.0) [
          | inl more ↦ let p : 2 ^ suc j ≤ 2 ^ w.0 = pow_mono {i = suc j} {j = w.0} (omega arith) in let e = w.3 in omega (arith, p, e)
          | inr less ↦ absurd (let p : 2 ^ w.0 ≤ 2 ^ j = pow_mono {i = w.0} {j = j} less in let e = w.3 in omega (arith, p, e, enough, short))
        ]
      ];
}

least_for_13 : IsLeast 0 13 32
least_for_13 = twice 4 13 (lit< tt) (lit< tt) (lit< tt) (lit< tt)

least_for_24 : IsLeast 0 24 32
least_for_24 = twice 4 24 (lit< tt) (lit< tt) (lit< tt) (lit< tt)

least_for_25 : IsLeast 0 25 64
least_for_25 = twice 5 25 (lit< tt) (lit< tt) (lit< tt) (lit< tt)

-- ---- the map of both tables

all_entries : entries_of newer waiting ≡ (5, 2) ∷ (15, 7) ∷ []
all_entries = refl

two : values tables ≡ 2
two = refl

-- 24 slots may be Live or Removed: one is Live, one is Removed, and one value waits
room_left : room tables ≡ 21
room_left = refl

-- the next growth would keep 32 slots
next_table : fresh tables ≡ replicate 32 Empty
next_table = refl

in_newer : slot_in tables (Newer 5) ≡ Live 5 2
in_newer = refl

that_waits : slot_in tables (Waiting 1) ≡ Live 15 7
that_waits = refl

entry_there : entry_in tables (Some (Waiting 1)) ≡ Some (15, 7)
entry_there = refl

no_spot : entry_in tables None ≡ None
no_spot = refl

-- both values in one table, without a Removed slot
packed : IsPacked {T = ℕ} (record { newer = Live 15 7 ∷ replicate 4 Empty ++ Live 5 2 ∷ replicate 26 Empty; waiting = []; older = 0; built = 32 })
packed = record { waiting = refl; room = refl }

-- ---- the three numbers that are kept with two tables

-- 12 values can be placed in 16 Empty slots at once
twelve_at_once : IsAtOnce {T = ℕ} (replicate 16 Empty) [] 12
twelve_at_once = record { alone = λ some. refl; fits = λ some. omega arith }

-- while an older table has slots, none can
none_at_once : IsAtOnce {T = ℕ} (replicate 16 Empty) (replicate 16 Empty) 1 → ⊥
none_at_once k = let older : 16 ≡ 0 = k.alone (lit< tt) in absurd (omega (arith, older))

-- 16 slots alone: the number that shows it is 15
quick_alone : IsHinted {T = ℕ} (replicate 16 Empty) [] 0 0 15 12
quick_alone = record { quick_is = λ small. (refl, refl); edge_within = omega arith; edge_ends = λ some. absurd (omega (arith, some)); places = twelve_at_once }
