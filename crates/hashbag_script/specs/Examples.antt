-- Examples, by evaluation, on `bag` of `Examples` of hashbag_core: 1 twice and 2 once, each instance a number with a tag.
use Rattle.std.specs.Prelude.{◌≡◌, ◌⊎◌, ℕ, ◌<◌, ◌≤◌, ◌^◌, Bool, true, false, List, [], ◌∷◌, length, replicate, slice_index, refl}
use Rattle.std.proofs.Common.{zero, suc, inl, inr, lit<, arith}
use Rattle.std.specs.List.{list_any}
use lib.Pow.{pow_mono}
use Rattle.hashbag_table.specs.SlotWords.{Empty, Live}
use Rattle.hashbag_table.specs.Slots.{is_live, slot_at}
use Rattle.hashbag_table.specs.Tables.{Tables, room, fresh, Fills, IsLeast}
use Rattle.hashbag_core.specs.Held.{no_slots_after_building}
use Rattle.hashbag_core.specs.Examples.{same_key, bag}
use Rattle.hashbag_script.specs.declared.script.Step.TheVariants.{Insert, InsertMany, Remove, Clear, Count as CountStep, Reserve, ShrinkToFit}
use Rattle.hashbag_script.specs.declared.script.Reply.TheVariants.{Count, Left, Taken, Absent, Done, TooMany}
use Rattle.hashbag_core.specs.Occurrences.{greatest_total}
use Rattle.hashbag_script.specs.Rows.{insert_row, replace_row, remove_row, remove_up_to_row, try_take_row, take_all_row, entry_set_row, entry_or_row, quota, retained, retain_row, clear_row, count_row, reserve_row, shrink_to_fit_row}
use Rattle.hashbag_script.specs.Script.{step, run, peak, arrivals, has_newcomer, newcomers, reserves_or_shrinks, IsRoomy, MayAllocate}
use Rattle.hashbag_script.specs.Turns.{LeavesTables}

-- ---- the table of steps

inserted : insert_row same_key greatest_total (1, 20) 1 bag ≡ ((1, 10) ∷ (2, 7) ∷ (1, 10) ∷ (1, 10) ∷ [], Count 2)
inserted = refl

too_many_inserted : insert_row same_key greatest_total (1, 20) 18446744073709551613 bag ≡ (bag, TooMany)
too_many_inserted = refl

replaced : replace_row same_key greatest_total (1, 30) bag ≡ ((2, 7) ∷ (1, 30) ∷ [], Count 2)
replaced = refl

removed : remove_row same_key (2, 0) bag ≡ ((1, 10) ∷ (1, 10) ∷ [], Count 1)
removed = refl

removed_up_to : remove_up_to_row same_key (1, 0) 1 bag ≡ ((2, 7) ∷ (1, 10) ∷ [], Count 1)
removed_up_to = refl

last_taken : try_take_row same_key (2, 0) bag ≡ ((1, 10) ∷ (1, 10) ∷ [], Taken (2, 7) 1)
last_taken = refl

one_of_two_taken : try_take_row same_key (1, 0) bag ≡ ((2, 7) ∷ (1, 10) ∷ [], Left 2)
one_of_two_taken = refl

none_taken : try_take_row same_key (3, 0) bag ≡ (bag, Absent)
none_taken = refl

both_taken : take_all_row same_key (1, 0) bag ≡ ((2, 7) ∷ [], Taken (1, 10) 2)
both_taken = refl

entry_set : entry_set_row same_key greatest_total (1, 0) 3 bag ≡ ((2, 7) ∷ (1, 10) ∷ (1, 10) ∷ (1, 10) ∷ [], Done)
entry_set = refl

entry_set_to_none : entry_set_row same_key greatest_total (1, 0) 0 bag ≡ ((2, 7) ∷ [], Done)
entry_set_to_none = refl

no_entry_set : entry_set_row same_key greatest_total (3, 0) 5 bag ≡ (bag, Absent)
no_entry_set = refl

entry_kept : entry_or_row same_key greatest_total (1, 0) 9 bag ≡ (bag, Count 2)
entry_kept = refl

entry_filled : entry_or_row same_key greatest_total (3, 30) 2 bag ≡ ((1, 10) ∷ (2, 7) ∷ (1, 10) ∷ (3, 30) ∷ (3, 30) ∷ [], Count 2)
entry_filled = refl

quotas : quota same_key (((1, 0), 1) ∷ ((1, 5), 9) ∷ []) (1, 10) ≡ 1
quotas = refl

kept : retained same_key (quota same_key (((1, 0), 1) ∷ ((2, 0), 5) ∷ [])) bag ≡ (2, 7) ∷ (1, 10) ∷ []
kept = refl

retain_done : retain_row same_key (((1, 0), 1) ∷ []) bag ≡ ((1, 10) ∷ [], Done)
retain_done = refl

cleared : clear_row same_key bag ≡ ([], Done)
cleared = refl

count_asked : count_row same_key (1, 0) bag ≡ (bag, Count 2)
count_asked = refl

reserved : reserve_row same_key 100 bag ≡ (bag, Done)
reserved = refl

shrunk : shrink_to_fit_row same_key bag ≡ (bag, Done)
shrunk = refl

-- ---- whole runs

whole_run : run same_key greatest_total [] (Insert (1, 10) ∷ Insert (1, 20) ∷ Remove (1, 30) ∷ CountStep (1, 40) ∷ [])
    ≡ ((1, 10) ∷ [], Count 0 ∷ Count 1 ∷ Count 2 ∷ Count 1 ∷ [])
unfolding run
whole_run = refl

one_step : step same_key greatest_total bag (Remove (2, 0)) ≡ ((1, 10) ∷ (1, 10) ∷ [], Count 1)
one_step = refl

-- at most two distinct values at any time
peak_of_run : peak same_key greatest_total [] (Insert (1, 10) ∷ Insert (2, 20) ∷ Remove (1, 0) ∷ Insert (3, 30) ∷ []) ≡ 2
unfolding peak
peak_of_run = refl

newcomer : has_newcomer same_key bag ((1, 11) ∷ (3, 30) ∷ []) ≡ Bool.true
newcomer = refl

-- 1 arrives twice, and the second of two insertions is no arrival
arrivals_of_run : arrivals same_key greatest_total [] (Insert (1, 10) ∷ Insert (1, 20) ∷ Remove (1, 0) ∷ Remove (1, 0) ∷ Insert (1, 30) ∷ []) ≡ 2
unfolding arrivals
arrivals_of_run = refl

one_newcomer : newcomers same_key bag ((1, 11) ∷ (3, 30) ∷ (4, 40) ∷ []) ≡ 1
one_newcomer = refl

no_newcomer : newcomers same_key bag ((1, 11) ∷ (2, 22) ∷ []) ≡ 0
no_newcomer = refl

-- ---- runs in reserved room

room_asked : list_any (reserves_or_shrinks {T = ℕ × ℕ}) (Insert (1, 10) ∷ Reserve 5 ∷ []) ≡ Bool.true
room_asked = refl

no_room_asked : list_any (reserves_or_shrinks {T = ℕ × ℕ}) (Insert (1, 10) ∷ Remove (1, 0) ∷ Clear ∷ []) ≡ Bool.false
no_room_asked = refl

-- 16 slots, all of them Empty, as the first insertion builds them: room for 12
abbrev sixteen : Tables (ℕ × ℕ)
sixteen = record { newer = fresh (no_slots_after_building 0); waiting = []; older = 0; built = 16 }

room_for_twelve : room sixteen ≡ 12
room_for_twelve = refl

-- a value that is inserted, removed and inserted again arrives twice. There is room for that
twice_in_reserved_room : IsRoomy same_key greatest_total [] (Insert (1, 10) ∷ Remove (1, 0) ∷ Insert (1, 30) ∷ []) sixteen
unfolding arrivals
twice_in_reserved_room = record { calls = refl; enough = omega arith }

-- ---- how a step changes the tables

-- 32 slots, all of them Empty, and 17 of an older table that wait
abbrev carrying : Tables (ℕ × ℕ)
carrying = record { newer = replicate 32 Empty; waiting = replicate 17 Empty; older = 32; built = 48 }

-- 1 arrived in the first slot. Its insertion carried the next 16 slots, so one slot still waits
abbrev carried : Tables (ℕ × ℕ)
carried = record { newer = Live (1, 10) 1 ∷ replicate 31 Empty; waiting = Empty ∷ []; older = 32; built = 48 }

-- 1 arrived, and all were carried
abbrev all_carried : Tables (ℕ × ℕ)
all_carried = record { newer = Live (1, 10) 1 ∷ replicate 31 Empty; waiting = []; older = 0; built = 48 }

abbrev first_place : List ℕ
first_place = 0 ∷ []

first_filled : Fills 17 carrying.newer carried.newer
first_filled = record { same_length = refl; places = first_place; at_most = omega arith; each = at }
  where
    at : (p : ℕ) → (slot_at carried.newer p ≡ slot_at carrying.newer p) ⊎ (((i : ℕ) × (i < length first_place) × (slice_index first_place i ≡ p)) × (is_live (slot_at carrying.newer p) ≡ false) × (is_live (slot_at carried.newer p) ≡ true))
    at zero = inr ((0, lit< tt, refl), refl, refl)
    at (suc p) = inl refl

arrival : LeavesTables same_key [] ((1, 10) ∷ []) (Insert (1, 10)) carrying carried
arrival = record {
  arrives = λ absent present. record {
    with_room = λ some. record { fills = first_filled; waits = refl };
    grown = λ full. absurd (omega (arith, full));
    room_kept = λ some. omega arith;
    room_grown = λ full. absurd (omega (arith, full));
    built = record { with_room = λ some. refl; grown = λ full. absurd (omega (arith, full)) };
  };
  absent = λ absent still. absurd (omega (arith, still));
  present = λ some. absurd (omega (arith, some));
}

-- no insertion carries all slots if more than 16 wait
never_all_at_once : LeavesTables same_key [] ((1, 10) ∷ []) (Insert (1, 10)) carrying all_carried → ⊥
never_all_at_once leaves = let waits = ((leaves.arrives refl (omega arith)).with_room (omega arith)).waits in cc

-- inserting a present value 0 times changes nothing
none_more : LeavesTables same_key ((1, 10) ∷ []) ((1, 10) ∷ []) (InsertMany (1, 20) 0) carried carried
none_more = record {
  arrives = λ none some. absurd (omega (arith, none));
  absent = λ none still. refl;
  present = λ some. inr (refl, refl);
}

emptied : LeavesTables same_key ((1, 10) ∷ []) [] Clear carried (record { newer = replicate 32 Empty; waiting = []; older = 0; built = 48 })
emptied = refl

asked : LeavesTables same_key [] [] (CountStep (1, 10)) carrying carrying
asked = refl

-- ---- what may fail for want of memory

reserve_in_room : MayAllocate same_key greatest_total [] sixteen (Reserve 12) → ⊥
reserve_in_room asks = omega (arith, asks)

reserve_past_room : MayAllocate same_key greatest_total [] sixteen (Reserve 13)
reserve_past_room = omega arith

no_value_to_shrink : MayAllocate same_key greatest_total [] sixteen ShrinkToFit → ⊥
no_value_to_shrink asks = asks.some refl

least_for_1 : IsLeast 0 1 16
least_for_1 = record {
  count = inr (4, lit< tt, lit< tt, refl);
  from = omega arith;
  enough = omega arith;
  least = λ other c from enough.
      elim c [
        | inl z ↦ absurd (omega (arith, z, enough))
        | inr w ↦ let p : 2 ^ 4 ≤ 2 ^ w.0 = pow_mono {i = 4} {j = w.0} w.1 in let e = w.3 in omega (arith, p, e)
      ];
}

-- 16 slots are the least for one value, and 32 are more
no_slot_to_shrink : MayAllocate same_key greatest_total ((1, 10) ∷ []) sixteen ShrinkToFit → ⊥
no_slot_to_shrink asks = let fewer = asks.smaller 16 least_for_1 in omega (arith, fewer)

slots_to_shrink : MayAllocate same_key greatest_total ((1, 10) ∷ []) carried ShrinkToFit
slots_to_shrink = record {
  some = λ none. (cc);
  smaller = λ m least. let few = least.least 16 least_for_1.count (omega arith) (omega arith) in omega (arith, few);
}
