-- The invariant of a table after a write.
use Rattle.std.proofs.Common.{◌≡◌, ◌≢◌, ℕ, zero, suc, ◌+◌, ◌-◌, ◌<◌, ◌≤◌, Bool, true, false, cond, List, [], ◌∷◌, length, replicate, refl, sym, ap, subst, ◌∙◌, inl, inr, arith, slice_set}
use Rattle.std.specs.Cmp.{IsEquivalence}
use Rattle.std.proofs.lemmas.Bool.{cases_lt}
use Rattle.std.proofs.lemmas.List.{length-set, length-replicate, get_or-replicate, get_or_past}
use Rattle.std.proofs.lemmas.List.Sums.{sum_by-cons}
use Rattle.hashbag_slots.specs.declared.slots.Slot.{Slot}
use Rattle.hashbag_slots.specs.declared.slots.Slot.TheVariants.{Empty, Removed, Moved, Live}
use Rattle.hashbag_slots.specs.Slots.{IsSlotCount, path_slot, is_live, is_removed, holds, live_count, removed_count, slot_at, IsAbsent, KeepsPaths, IsTable}
use Rattle.hashbag_slots.proofs.Probing.{false_by}
use Rattle.hashbag_slots.proofs.Paths.{path_below, path_once}
use Rattle.hashbag_slots.proofs.Edits.{count-set, IsSet-set, IsPathRule-set}

no_live : (T : Type 0) (n : ℕ) → 0 ≡ live_count {T = T} (replicate n Empty)
no_live T zero = refl
no_live T (suc n) = no_live T n

no_removed : (T : Type 0) (n : ℕ) → 0 ≡ removed_count {T = T} (replicate n Empty)
no_removed T zero = refl
no_removed T (suc n) = no_removed T n

module _ {T : Type 0} where
  pub is_free : (s : Slot T) → is_live s ≡ true → s ≢ Empty
  is_free s h e = cc

  pub within_table : (ss : List (Slot T)) (p : ℕ) → is_live (slot_at ss p) ≡ true → p < length ss
  within_table ss p h =
      elim (cases_lt p (length ss)) [
        | inl a ↦ a
        | inr b ↦ absurd (is_free _ h (get_or_past ss p Empty b))
      ]

  pub live_not_removed : (s : Slot T) → is_live s ≡ true → is_removed s ≡ false
  live_not_removed Empty h = refl
  live_not_removed Removed h = cc
  live_not_removed Moved h = refl
  live_not_removed (Live v n) h = refl

  pub slot_at-replicate : (n p : ℕ) → slot_at (replicate n Empty) p ≡ (let e : Slot T = Empty in e)
  slot_at-replicate n p =
      elim (cases_lt p n) [
        | inl a ↦ get_or-replicate n p Empty Empty a
        | inr b ↦ get_or_past (replicate n Empty) p Empty (let l = length-replicate n (let e : Slot T = Empty in e) in omega arith)
      ]

  pub IsTable-empty : (eq : T → T → Bool) (n : ℕ) → IsSlotCount n → IsTable eq (replicate n Empty) 0 0
  IsTable-empty eq n c = record {
    count = subst IsSlotCount (sym (length-replicate n Empty)) c;
    live_is = no_live T n;
    removed_is = no_removed T n;
    distinct = record {
      apart = λ p q v w m k at_p at_q same. let e = slot_at-replicate n p in absurd (cc);
      positive = λ p v k at_p. let e = slot_at-replicate n p in absurd (cc);
    };
  }

  pub KeepsPaths-empty : (hash : T → ℕ) (n : ℕ) → KeepsPaths hash (replicate n Empty)
  KeepsPaths-empty hash n = record {
    path = λ v k step lt here before earlier. let e = slot_at-replicate n (path_slot (length (replicate n (let e : Slot T = Empty in e))) (hash v) step) in absurd (cc);
  }

module _ {T : Type 0} (eq : T → T → Bool) (laws : IsEquivalence eq) (ss : List (Slot T)) (live removed p : ℕ) (table : IsTable eq ss live removed) where
  -- a Live slot becomes one that is not
  pub IsTable-take : (s : Slot T) → is_live (slot_at ss p) ≡ true → is_live s ≡ false → p < length ss → IsTable eq (slice_set ss p s) (live - 1) (removed + cond (is_removed s) 1 0)
  IsTable-take s was now within =
      let lives = rw (was, now) at (count-set ss p s within is_live) in
      let removes = rw (live_not_removed (slot_at ss p) was) at (count-set ss p s within is_removed) in
      record {
        count = subst IsSlotCount (sym (length-set ss p s)) table.count;
        live_is = omega (arith, lives, table.live_is);
        removed_is = omega (arith, removes, table.removed_is);
        distinct = IsSet-set ss p s within eq laws.symm table.distinct
            (λ x w k j q new ne at. absurd (let h = ap is_live new in cc))
            (λ x k new. absurd (let h = ap is_live new in cc));
      }

  -- a slot that is not Live gets a new value
  pub IsTable-put : (v : T) (n : ℕ) → is_live (slot_at ss p) ≡ false → p < length ss → IsAbsent (eq v) ss → 0 < n → IsTable eq (slice_set ss p (Live v n)) (live + 1) (removed - cond (is_removed (slot_at ss p)) 1 0)
  IsTable-put v n was within absent pos =
      let lives = rw was at (count-set ss p (Live v n) within is_live) in
      let removes = count-set ss p (Live v n) within is_removed in
      record {
        count = subst IsSlotCount (sym (length-set ss p (Live v n))) table.count;
        live_is = omega (arith, lives, table.live_is);
        removed_is = omega (arith, removes, table.removed_is);
        distinct = IsSet-set ss p (Live v n) within eq laws.symm table.distinct
            (λ x w k j q new ne at.
            let e : x ≡ v = cc in
            let no = absent q (within_table ss q (ap is_live at)) in
            ap (λ y. eq y w) e ∙ sym (ap (holds (eq v)) at) ∙ no)
            (λ x k new. let e : n ≡ k = cc in omega arith);
      }

module _ {T : Type 0} (hash : T → ℕ) (ss : List (Slot T)) (rule : KeepsPaths hash ss) where
  -- a Live slot becomes another that a probe goes past, with no other hash where it is Live
  pub KeepsPaths-keep : (p : ℕ) (s : Slot T) → p < length ss → s ≢ Empty
      → ((v : T) (n : ℕ) → s ≡ Live v n → (w : T) × (m : ℕ) × (slot_at ss p ≡ Live w m) × (hash w ≡ hash v))
      → KeepsPaths hash (slice_set ss p s)
  KeepsPaths-keep p s within full same =
      IsPathRule-set ss p s within hash rule full (λ v n step new lt at before earlier empty.
      let old = same v n new in
      rule.path old.0 old.1 step lt (ap (λ h. slot_at ss (path_slot (length ss) h step)) old.3 ∙ ap (slot_at ss) at ∙ old.2) before earlier
      (ap (λ h. slot_at ss (path_slot (length ss) h before)) old.3 ∙ empty))

  -- a new value goes behind Live slots only
  pub KeepsPaths-place : (v : T) (n step : ℕ) → step < length ss
      → ((before : ℕ) → before < step → is_live (slot_at ss (path_slot (length ss) (hash v) before)) ≡ true)
      → KeepsPaths hash (slice_set ss (path_slot (length ss) (hash v) step) (Live v n))
  KeepsPaths-place v n step lt front =
      IsPathRule-set ss (path_slot (length ss) (hash v) step) (Live v n) (path_below (length ss) (hash v) step (omega arith)) hash rule (λ empty. cc)
      (λ x k other new lt_other at before earlier empty.
      let e : hash v ≡ hash x = ap hash (let z : v ≡ x = cc in z) in
      let same : other ≡ step = path_once (length ss) (hash v) other step lt_other lt (ap (λ h. path_slot (length ss) h other) e ∙ at) in
      is_free _ (front before (omega arith)) (ap (λ h. slot_at ss (path_slot (length ss) h before)) e ∙ empty))

module _ {T : Type 0} (eq : T → T → Bool) (laws : IsEquivalence eq) (ss : List (Slot T)) (live removed p : ℕ) (table : IsTable eq ss live removed) where
  -- a Live slot gets another count, and perhaps an equal instance
  pub IsTable-rewrite : (v w : T) (m n : ℕ) → slot_at ss p ≡ Live v m → p < length ss → eq v w ≡ true → 0 < n → IsTable eq (slice_set ss p (Live w n)) live removed
  IsTable-rewrite v w m n was within same pos =
      let lives = count-set ss p (Live w n) within is_live in
      let removes = count-set ss p (Live w n) within is_removed in
      let was_live : is_live (slot_at ss p) ≡ true = ap is_live was in
      let was_kept : is_removed (slot_at ss p) ≡ false = ap is_removed was in
      record {
        count = subst IsSlotCount (sym (length-set ss p (Live w n))) table.count;
        live_is = let e = rw was_live at lives in omega (arith, e, table.live_is);
        removed_is = let e = rw was_kept at removes in omega (arith, e, table.removed_is);
        distinct = IsSet-set ss p (Live w n) within eq laws.symm table.distinct
            (λ x y k j q new ne at. false_by (eq x y) (λ yes. let e : w ≡ x = cc in absurd (ne (sym (table.distinct.apart p q v y m j was at (laws.congr v w y same ∙ ap (λ z. eq z y) e ∙ yes))))))
            (λ x k new. let e : n ≡ k = cc in omega arith);
      }

-- a Removed slot is counted
pub some_removed : {T : Type 0} (ss : List (Slot T)) (p : ℕ) → p < length ss → is_removed (slot_at ss p) ≡ true → 1 ≤ removed_count ss
some_removed ss p within h = let e = rw h at (count-set ss p Empty within is_removed) in omega (arith, e)

pub some_live : {T : Type 0} (ss : List (Slot T)) (p : ℕ) → p < length ss → is_live (slot_at ss p) ≡ true → 1 ≤ live_count ss
some_live ss p within h = let e = rw h at (count-set ss p Empty within is_live) in omega (arith, e)

-- not all slots are Live
pub some_free : {T : Type 0} (ss : List (Slot T)) → live_count ss < length ss → (p : ℕ) × (p < length ss) × (is_live (slot_at ss p) ≡ false)
some_free [] h = absurd (omega arith)
some_free (Empty ∷ ss) h = (0, omega arith, refl)
some_free (Removed ∷ ss) h = (0, omega arith, refl)
some_free (Moved ∷ ss) h = (0, omega arith, refl)
some_free (Live v n ∷ ss) h = let more : live_count (Live v n ∷ ss) ≡ 1 + live_count ss = sum_by-cons (λ x. cond (is_live x) 1 0) (Live v n) ss in let r = some_free ss (omega (arith, more, h)) in let l = r.1 in (suc r.0, omega arith, r.2)

-- one is Live
pub some_alive : {T : Type 0} (ss : List (Slot T)) → 0 < live_count ss → (p : ℕ) × (is_live (slot_at ss p) ≡ true)
some_alive [] h = absurd (omega arith)
some_alive (Empty ∷ ss) h = let r = some_alive ss h in (suc r.0, r.1)
some_alive (Removed ∷ ss) h = let r = some_alive ss h in (suc r.0, r.1)
some_alive (Moved ∷ ss) h = let r = some_alive ss h in (suc r.0, r.1)
some_alive (Live v n ∷ ss) h = (0, refl)

-- none is
pub none_live : {T : Type 0} (ss : List (Slot T)) → live_count ss ≡ 0 → (p : ℕ) → is_live (slot_at ss p) ≡ false
none_live [] h p = refl
none_live (Empty ∷ ss) h zero = refl
none_live (Removed ∷ ss) h zero = refl
none_live (Moved ∷ ss) h zero = refl
none_live (Live v n ∷ ss) h zero = absurd (let more : live_count (Live v n ∷ ss) ≡ 1 + live_count ss = sum_by-cons (λ x. cond (is_live x) 1 0) (Live v n) ss in omega (arith, more, h))
none_live (Empty ∷ ss) h (suc p) = none_live ss h p
none_live (Removed ∷ ss) h (suc p) = none_live ss h p
none_live (Moved ∷ ss) h (suc p) = none_live ss h p
none_live (Live v n ∷ ss) h (suc p) = absurd (let more : live_count (Live v n ∷ ss) ≡ 1 + live_count ss = sum_by-cons (λ x. cond (is_live x) 1 0) (Live v n) ss in omega (arith, more, h))
