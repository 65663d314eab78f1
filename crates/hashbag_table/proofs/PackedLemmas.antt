-- One table of slots that is filled: nothing waits, and no slot is Removed.
use Rattle.std.proofs.Common.{◌≡◌, ℕ, suc, ◌+◌, ◌<◌, ◌≤◌, Bool, true, false, cond, List, [], ◌∷◌, length, drop, replicate, refl, sym, ap, ◌∙◌, inl, inr, arith}
use Rattle.std.proofs.lemmas.List.{length-replicate}
use Rattle.std.proofs.lemmas.List.Sums.{sum_by-cons}
use Rattle.hashbag_slots.specs.declared.slots.Slot.{Slot}
use Rattle.hashbag_slots.specs.declared.slots.Slot.TheVariants.{Empty, Removed, Moved, Live}
use Rattle.hashbag_slots.specs.Slots.{is_live, is_removed, live_count, removed_count, slot_at}
use Rattle.hashbag_table.specs.Tables.{most_used, Tables, Fills, Arrives, IsPacked, room}
use Rattle.hashbag_table.proofs.CarryLemmas.{live_fresh, removed_fresh}

abbrev one_if : Bool → ℕ
one_if b = cond b 1 0

one_if_mono : (a b : Bool) → (a ≡ true → b ≡ true) → one_if a ≤ one_if b
one_if_mono false b h = omega arith
one_if_mono true true h = omega arith
one_if_mono true false h = absurd (let z : false ≡ true = h refl in cc)

module _ {T : Type 0} where
  -- where each Removed slot was Removed before, no more are Removed
  pub removed_fewer : (xs ys : List (Slot T)) → length ys ≡ length xs → ((p : ℕ) → is_removed (slot_at ys p) ≡ true → is_removed (slot_at xs p) ≡ true) → removed_count ys ≤ removed_count xs
  removed_fewer [] [] same h = omega arith
  removed_fewer [] (y ∷ ys) same h = absurd (omega arith)
  removed_fewer (x ∷ xs) [] same h = absurd (omega arith)
  removed_fewer (x ∷ xs) (y ∷ ys) same h =
      let r = removed_fewer xs ys (omega arith) (λ p here. h (suc p) here) in
      let a : removed_count (x ∷ xs) ≡ one_if (is_removed x) + removed_count xs = sum_by-cons (λ s. one_if (is_removed s)) x xs in
      let b : removed_count (y ∷ ys) ≡ one_if (is_removed y) + removed_count ys = sum_by-cons (λ s. one_if (is_removed s)) y ys in
      let m = one_if_mono (is_removed y) (is_removed x) (h 0) in
      omega (arith, a, b, m, r)

  not_both : (s : Slot T) → is_live s ≡ true → is_removed s ≡ true → ⊥
  not_both Empty live removed = absurd (cc)
  not_both Removed live removed = absurd (cc)
  not_both Moved live removed = absurd (cc)
  not_both (Live v n) live removed = absurd (cc)

  -- slots that become Live are not Removed
  pub removed-Fills : (k : ℕ) (old new : List (Slot T)) → Fills k old new → removed_count new ≤ removed_count old
  removed-Fills k old new fills =
      removed_fewer old new fills.same_length (λ p here.
      elim (fills.each p) [
        | inl same ↦ ap is_removed (sym same) ∙ here
        | inr x ↦ absurd (not_both (slot_at new p) x.2 here)
      ])

  pub fresh_length : (ss : List (Slot T)) (n : ℕ) → ss ≡ replicate n Empty → ss ≡ replicate (length ss) Empty
  fresh_length ss n e = e ∙ ap (λ m. replicate m Empty) (sym (ap length e ∙ length-replicate n Empty))

  -- a table of Empty slots
  pub packed_fresh : (newer waiting : List (Slot T)) (n older built : ℕ) → newer ≡ replicate n Empty → waiting ≡ [] → IsPacked (record { newer = newer; waiting = waiting; older = older; built = built })
  packed_fresh newer waiting n older built empty none =
      let r = removed_fresh newer (fresh_length newer n empty) in
      record { waiting = none; room = omega (arith, r) }

  -- a table that was packed, after k values came into it
  pub record IsFilled (t first : Tables T) (k : ℕ) : Type 0 where
    pub slots : length t.newer ≡ length first.newer
    pub waiting : t.waiting ≡ []
    pub removed : removed_count t.newer ≡ 0
    pub room : most_used (length first.newer) ≤ room t + k
    pub built : t.built ≡ first.built

  pub filled_first : (t : Tables T) → t.newer ≡ replicate (length t.newer) Empty → IsPacked t → IsFilled t t 0
  filled_first t empty packed = record {
    slots = refl;
    waiting = packed.waiting;
    removed = removed_fresh t.newer empty;
    room = let a = live_fresh t.newer empty in let b = removed_fresh t.newer empty in let w : live_count t.waiting ≡ 0 = ap live_count packed.waiting in omega (arith, a, b, w);
    built = refl;
  }

  -- while fewer came than may be used, there is room for another
  pub filled_next : (t u first : Tables T) (k : ℕ) → IsFilled t first k → k < most_used (length first.newer) → Arrives t u → IsFilled u first (k + 1)
  filled_next t u first k before more came =
      let some : 0 < room t = let r = before.room in omega (arith, r, more) in
      let kept = came.with_room some in
      let fewer = removed-Fills 17 t.newer u.newer kept.fills in
      record {
        slots = kept.fills.same_length ∙ before.slots;
        waiting = kept.waits ∙ ap (drop 16) before.waiting;
        removed = let z = before.removed in omega (arith, z, fewer);
        room = let r = before.room in let s = came.room_kept some in omega (arith, r, s);
        built = came.built.with_room some ∙ before.built;
      }

  pub filled_packed : (t first : Tables T) (k : ℕ) → IsFilled t first k → IsPacked t
  filled_packed t first k h = record { waiting = h.waiting; room = let z = h.removed in omega (arith, z) }
