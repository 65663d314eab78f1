-- How a step may change slots and room, from what it leaves of the tables.
use Rattle.std.proofs.Common.{◌≡◌, ℕ, suc, ◌+◌, ◌-◌, ◌≤◌, ◌⊎◌, ◌==◌, min, nat_lt, Bool, true, false, cond, List, [], ◌∷◌, length, refl, sym, ap, subst, ◌∙◌, inl, inr, arith}
use Rattle.std.specs.Cmp.{IsEquivalence}
use Rattle.std.specs.List.Sorted.{IsPermutation}
use Rattle.std.proofs.lemmas.Bool.{cases_lt, false≢true}
use Rattle.std.proofs.lemmas.List.{length-replicate}
use Rattle.std.proofs.lemmas.List.Sums.{sum_by-cons}
use Rattle.std.proofs.lemmas.List.Sorted.{IsPermutation-refl}
use Rattle.hashbag_table.specs.SlotWords.{Slot, Empty, Removed, Moved, Live}
use Rattle.hashbag_table.specs.Slots.{is_live, is_removed, live_count, removed_count, recounted}
use Rattle.hashbag_table.specs.Retained.{slot_retained, RetainsSlots, RetainsTables}
use Rattle.hashbag_table.specs.Tables.{Tables, most_used, room, values, grown_slots, Arrives, KeepsRoom}
use Rattle.hashbag_table.proofs.RoomKeptLemmas.{IsTaken, kept_Rewrites, keeps_as, keeps_more, keeps_Arrives}
use Rattle.hashbag_core.specs.Held.{left_in}
use Rattle.hashbag_core.specs.Occurrences.{count}
use Rattle.hashbag_core.proofs.HeldLemmas.{room_cleared}
use Rattle.hashbag_script.specs.declared.script.Step.{Step}
use Rattle.hashbag_script.specs.declared.script.Step.TheVariants.{Insert, InsertMany, Replace, Remove, RemoveUpTo, TryTake, TakeAll, EntrySet, EntryOr, Retain, Clear, Count, Reserve, ShrinkToFit, Limit}
use Rattle.hashbag_script.specs.Script.{newcomers, reserves_or_shrinks}
use Rattle.hashbag_script.specs.Turns.{SetsCount, StoresValue, LeavesTables}
use Rattle.hashbag_script.proofs.RoomLemmas.{newcomer_there, newcomers_rearranged}

module _ {T : Type 0} where
  -- a new table took the place of one that had no room, for one value more
  pub record Outgrows (old new : Tables T) : Type 0 where
    pub slots : length new.newer ≡ grown_slots (length old.newer) (values old)
    pub room : room new ≡ most_used (length new.newer) - values old - 1
    pub built : new.built ≡ old.built + length new.newer

  -- k values came: into the slots that there were, or the one value that came for which there was no room into a new table
  abbrev pub Moves : ℕ → Tables T → Tables T → Type 0
  Moves k old new = KeepsRoom k old new ⊎ ((k ≡ 1) × (room old ≡ 0) × Outgrows old new)

  -- what an absent value leaves where there was no room
  outgrown : (old new : Tables T) → room old ≡ 0 → Arrives old new → Outgrows old new
  outgrown old new full h = record {
    slots = (h.grown full).fills.same_length ∙ length-replicate (grown_slots (length old.newer) (values old)) _;
    room = h.room_grown full;
    built = h.built.grown full;
  }

  moves_arrived : (k : ℕ) (old new : Tables T) → k ≡ 1 → Arrives old new → Moves k old new
  moves_arrived k old new one came = elim (cases_lt 0 (room old)) [
    | inl some ↦ inl (subst (λ k. KeepsRoom k old new) (sym one) (keeps_Arrives old new came some))
    | inr full ↦ let none_left : room old ≡ 0 = omega (arith, full) in inr (one, none_left, outgrown old new none_left came)
  ]

  -- what leaves all room moves nothing
  moves_kept : (k : ℕ) (old new : Tables T) → KeepsRoom 0 old new → Moves k old new
  moves_kept k old new h = inl (keeps_more k old new h)

  moves_same : (k : ℕ) (old new : Tables T) → new ≡ old → Moves k old new
  moves_same k old new same = inl (keeps_as k old new same)

  -- where there is room, no table is made
  pub moves_within : (k : ℕ) (old new : Tables T) → Moves k old new → k ≤ room old → KeepsRoom k old new
  moves_within k old new h enough = elim h [
    | inl kept ↦ kept
    | inr grown ↦ absurd (let one = grown.0 in let full = grown.1 in omega (arith, one, full, enough))
  ]

  -- ---- `retain`: the slots, once its closure has given a count for each

  -- how many slots the two counts have of one
  abbrev one_live : Slot T → ℕ
  one_live s = cond (is_live s) 1 0

  abbrev one_removed : Slot T → ℕ
  one_removed s = cond (is_removed s) 1 0

  -- a Live slot is left Live or Removed, and another one as it was
  pub record KeepsTaken (s t : Slot T) : Type 0 where
    pub taken : one_live t + one_removed t ≡ one_live s + one_removed s
    pub live : one_live t ≤ one_live s

  live_left : (b : Bool) (v : T) (m n : ℕ) → KeepsTaken (Live v n) (cond b (Live v m) Removed)
  live_left true v m n = record { taken = refl; live = omega arith }
  live_left false v m n = record { taken = refl; live = omega arith }

  slot_left_taken : (s : Slot T) (a : ℕ) → KeepsTaken s (slot_retained a s)
  slot_left_taken Empty a = record { taken = refl; live = omega arith }
  slot_left_taken Removed a = record { taken = refl; live = omega arith }
  slot_left_taken Moved a = record { taken = refl; live = omega arith }
  slot_left_taken (Live v n) a = live_left (nat_lt 0 (min a n)) v (min a n) n

  pub record KeepsCounts (old new : List (Slot T)) : Type 0 where
    pub taken : live_count new + removed_count new ≡ live_count old + removed_count old
    pub live : live_count new ≤ live_count old

  counts_kept : (old new : List (Slot T)) → RetainsSlots old new → KeepsCounts old new
  counts_kept [] [] h = record { taken = refl; live = omega arith }
  counts_kept [] (t ∷ new) h = absurd (let long = h.same_length in omega (arith, long))
  counts_kept (s ∷ old) [] h = absurd (let long = h.same_length in omega (arith, long))
  counts_kept (s ∷ old) (t ∷ new) h =
      let long = h.same_length in
      let rest = counts_kept old new (record { same_length = omega (arith, long); each = λ p. h.each (suc p) }) in
      let first : KeepsTaken s t = subst (λ (u : Slot T). KeepsTaken s u) (sym (h.each 0).1) (slot_left_taken s (h.each 0).0) in
      let a = sum_by-cons one_live s old in let b = sum_by-cons one_removed s old in
      let c = sum_by-cons one_live t new in let d = sum_by-cons one_removed t new in
      record { taken = omega (arith, a, b, c, d, first, rest); live = omega (arith, a, c, first, rest) }

  kept_retained : (old new : Tables T) → RetainsTables old new → KeepsRoom 0 old new
  kept_retained old new h =
      let long = h.newer.same_length in
      let same : most_used (length new.newer) ≡ most_used (length old.newer) = ap most_used long in
      let a = counts_kept old.newer new.newer h.newer in let b = counts_kept old.waiting new.waiting h.waiting in
      record { slots = long; room = omega (arith, same, a, b); built = h.built }

  -- ---- the slot of a value that changes

  taken_left : (n : ℕ) (v : T) (m : ℕ) → IsTaken (left_in n (Live v m))
  taken_left n v m = by_test (n == 0)
    where
      by_test : (b : Bool) → IsTaken (cond b Removed (recounted n (Live v m)))
      by_test true = refl
      by_test false = refl

module _ {T : Type 0} {eq : T → T → Bool} (laws : IsEquivalence eq) where
  module _ (B C : List T) (old new : Tables T) where
    moves_set : (v : T) → SetsCount eq v (count eq v B) (count eq v C) old new → Moves (newcomers eq B C) old new
    moves_set v sets = elim (cases_lt 0 (count eq v B)) [
      | inl some ↦ elim (sets.present some) [
        | inl slot ↦ moves_kept _ old new (kept_Rewrites (eq v) (left_in (count eq v C)) old new (taken_left (count eq v C)) slot)
        | inr same ↦ moves_same _ old new same.1
      ]
      | inr none ↦ let absent : count eq v B ≡ 0 = omega (arith, none) in
          elim (cases_lt 0 (count eq v C)) [
            | inl some ↦ moves_arrived _ old new (newcomer_there laws v B C absent some) (sets.arrives absent some)
            | inr still ↦ moves_same _ old new (sets.absent absent (omega (arith, still)))
          ]
    ]

    moves_stored : (v : T) → StoresValue eq v (count eq v B) (count eq v C) old new → Moves (newcomers eq B C) old new
    moves_stored v stores = elim (cases_lt 0 (count eq v B)) [
      | inl some ↦ moves_kept _ old new (kept_Rewrites (eq v) (λ _. Live v 1) old new (λ w n. refl) (stores.present some))
      | inr none ↦ let absent : count eq v B ≡ 0 = omega (arith, none) in
          elim (cases_lt 0 (count eq v C)) [
            | inl some ↦ moves_arrived _ old new (newcomer_there laws v B C absent some) (stores.arrives absent some)
            | inr still ↦ moves_same _ old new (stores.absent absent (omega (arith, still)))
          ]
    ]

    moves_step : (s : Step T) → reserves_or_shrinks s ≡ false → LeavesTables eq B C s old new → Moves (newcomers eq B C) old new
    moves_step (Insert v) quiet leaves = moves_set v leaves
    moves_step (InsertMany v n) quiet leaves = moves_set v leaves
    moves_step (Replace v) quiet leaves = moves_stored v leaves
    moves_step (Remove v) quiet leaves = moves_set v leaves
    moves_step (RemoveUpTo v q) quiet leaves = moves_set v leaves
    moves_step (TryTake v) quiet leaves = moves_set v leaves
    moves_step (TakeAll v) quiet leaves = moves_set v leaves
    moves_step (EntrySet v n) quiet leaves = moves_set v leaves
    moves_step (EntryOr v q) quiet leaves = moves_set v leaves
    moves_step (Retain list) quiet leaves = moves_kept _ old new (kept_retained old new leaves)
    moves_step Clear quiet leaves = moves_kept _ old new (subst (λ (t : Tables T). KeepsRoom 0 old t) (sym leaves) (room_cleared old))
    moves_step (Count v) quiet leaves = moves_same _ old new leaves
    moves_step (Reserve n) quiet leaves = absurd (false≢true (sym quiet))
    moves_step ShrinkToFit quiet leaves = absurd (false≢true (sym quiet))
    moves_step (Limit n) quiet leaves = moves_same _ old new leaves

  -- a step that neither reserves nor shrinks, which made the list C of B, where Y is C but for its order
  pub moves_left : (B Y C : List T) (s : Step T) (old new : Tables T) → IsPermutation Y C → reserves_or_shrinks s ≡ false → LeavesTables eq B C s old new → Moves (newcomers eq B Y) old new
  moves_left B Y C s old new left quiet leaves =
      subst (λ (k : ℕ). Moves k old new) (sym (newcomers_rearranged laws B B Y C (IsPermutation-refl B) left)) (moves_step B C old new s quiet leaves)
