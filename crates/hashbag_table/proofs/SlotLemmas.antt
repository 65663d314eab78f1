-- The map of a list of slots, and what is looked up in two of them.
use Rattle.std.proofs.Common.{◌≡◌, ℕ, zero, suc, ◌+◌, ◌<◌, ◌≤◌, Bool, true, false, cond, List, [], ◌∷◌, ◌++◌, length, drop, Option, Some, None, refl, sym, ap, subst, ◌∙◌, arith, slice_set, All}
use Rattle.std.specs.Map.{lookup_entry}
use Rattle.std.specs.List.Sorted.{IsPermutation}
use Rattle.std.proofs.lemmas.List.Sums.{sum_by-cons}
use Rattle.std.proofs.lemmas.List.Sorted.{IsPermutation-refl, IsPermutation-sym, IsPermutation-cons, IsPermutation-trans, IsPermutation-middle, IsPermutation-append_right}
use Rattle.hashbag_slots.specs.declared.slots.Slot.{Slot}
use Rattle.hashbag_slots.specs.declared.slots.Slot.TheVariants.{Empty, Removed, Moved, Live}
use Rattle.hashbag_slots.specs.Slots.{is_live, live_count, slot_at, HoldsAt, IsAbsent, slot_entry, entries, Places, PlacesAll}
use Rattle.std.specs.List.{AllByRecursion}
use Rattle.std.specs.Map.{keys_of}
use Rattle.std.proofs.lemmas.Map.Keys.{IsDistinct-cons}
use Rattle.std.proofs.lemmas.List.Elements.{All-cons}
use Rattle.std.proofs.lemmas.List.Sorted.{All-permutation}
use Rattle.hashbag_slots.proofs.Probing.{holder}
use Rattle.hashbag_table.specs.Entries.{IsCounted}

module _ {T : Type 0} where
  pub entries-append : (xs ys : List (Slot T)) → entries (xs ++ ys) ≡ entries xs ++ entries ys
  entries-append [] ys = refl
  entries-append (Empty ∷ xs) ys = entries-append xs ys
  entries-append (Removed ∷ xs) ys = entries-append xs ys
  entries-append (Moved ∷ xs) ys = entries-append xs ys
  entries-append (Live v n ∷ xs) ys = ap (λ es. (v, n) ∷ es) (entries-append xs ys)

  pub length-entries : (ss : List (Slot T)) → length (entries ss) ≡ live_count ss
  length-entries [] = refl
  length-entries (Empty ∷ ss) = length-entries ss
  length-entries (Removed ∷ ss) = length-entries ss
  length-entries (Moved ∷ ss) = length-entries ss
  length-entries (Live v n ∷ ss) = let more : live_count (Live v n ∷ ss) ≡ 1 + live_count ss = sum_by-cons (λ x. cond (is_live x) 1 0) (Live v n) ss in let l = length-entries ss in omega (arith, more, l)

  pub entries_few : (ss : List (Slot T)) → length (entries ss) ≤ length ss
  entries_few [] = omega arith
  entries_few (Empty ∷ ss) = omega (arith, entries_few ss)
  entries_few (Removed ∷ ss) = omega (arith, entries_few ss)
  entries_few (Moved ∷ ss) = omega (arith, entries_few ss)
  entries_few (Live v n ∷ ss) = omega (arith, entries_few ss)

  pub live_few : (ss : List (Slot T)) → live_count ss ≤ length ss
  live_few ss = let a = length-entries ss in let b = entries_few ss in omega arith

  head_dead : (s : Slot T) (ss : List (Slot T)) → is_live s ≡ false → entries (s ∷ ss) ≡ entries ss
  head_dead Empty ss h = refl
  head_dead Removed ss h = refl
  head_dead Moved ss h = refl
  head_dead (Live v n) ss h = absurd (cc)

  -- slots that are not Live have no entries
  pub entries-drop : (ss : List (Slot T)) (k : ℕ) → k ≤ length ss → ((p : ℕ) → p < k → is_live (slot_at ss p) ≡ false) → entries (drop k ss) ≡ entries ss
  entries-drop ss zero le dead = refl
  entries-drop [] (suc k) le dead = refl
  entries-drop (s ∷ ss) (suc k) le dead = entries-drop ss k (omega arith) (λ p lt. dead (suc p) (omega arith)) ∙ sym (head_dead s ss (dead 0 (omega arith)))

  pub live-drop : (ss : List (Slot T)) (k : ℕ) → k ≤ length ss → ((p : ℕ) → p < k → is_live (slot_at ss p) ≡ false) → live_count (drop k ss) ≡ live_count ss
  live-drop ss k le dead = sym (length-entries (drop k ss)) ∙ ap length (entries-drop ss k le dead) ∙ length-entries ss

  -- a value that is put into a slot that was not Live comes beside all others
  pub entries_put : (ss : List (Slot T)) (p : ℕ) (v : T) (n : ℕ) → p < length ss → is_live (slot_at ss p) ≡ false → IsPermutation ((v, n) ∷ entries ss) (entries (slice_set ss p (Live v n)))
  entries_put [] p v n lt dead = absurd (omega arith)
  entries_put (s ∷ ss) zero v n lt dead = subst (λ es. IsPermutation ((v, n) ∷ es) ((v, n) ∷ entries ss)) (sym (head_dead s ss dead)) (IsPermutation-refl _)
  entries_put (Empty ∷ ss) (suc p) v n lt dead = entries_put ss p v n (omega arith) dead
  entries_put (Removed ∷ ss) (suc p) v n lt dead = entries_put ss p v n (omega arith) dead
  entries_put (Moved ∷ ss) (suc p) v n lt dead = entries_put ss p v n (omega arith) dead
  entries_put (Live w m ∷ ss) (suc p) v n lt dead = IsPermutation-trans _ _ _ (IsPermutation-middle ((v, n) ∷ []) (w, m) (entries ss)) (IsPermutation-cons (w, m) _ _ (entries_put ss p v n (omega arith) dead))

  pub entries-Places : (v : T) (n : ℕ) (old new : List (Slot T)) → Places v n old new → IsPermutation ((v, n) ∷ entries old) (entries new)
  entries-Places v n old new put = subst (λ ss. IsPermutation ((v, n) ∷ entries old) (entries ss)) (sym put.after) (entries_put old put.at v n put.within put.free)

  pub entries-PlacesAll : (hash : T → ℕ) (es : List (T × ℕ)) (a b : List (Slot T)) → PlacesAll hash es a b → IsPermutation (es ++ entries a) (entries b)
  entries-PlacesAll hash [] a b h = subst (λ ss. IsPermutation (entries a) (entries ss)) (sym h) (IsPermutation-refl _)
  entries-PlacesAll hash (e ∷ es) a b h =
      IsPermutation-trans _ _ _ (IsPermutation-sym _ _ (IsPermutation-middle es e (entries a)))
      (IsPermutation-trans _ _ _ (IsPermutation-append_right es _ _ (entries-Places e.0 e.1 a h.0 h.1.places)) (entries-PlacesAll hash es h.0 b h.2))

  some_first : (b : Bool) (e x : T × ℕ) (r s : Option (T × ℕ)) → (r ≡ Some x → s ≡ Some x) → cond b (Some e) r ≡ Some x → cond b (Some e) s ≡ Some x
  some_first true e x r s f h = h
  some_first false e x r s f h = f h

  pub lookup-append_some : (test : T → Bool) (xs ys : List (T × ℕ)) (e : T × ℕ) → lookup_entry test xs ≡ Some e → lookup_entry test (xs ++ ys) ≡ Some e
  lookup-append_some test [] ys e h = absurd (cc)
  lookup-append_some test (x ∷ xs) ys e h = some_first (test x.0) x e _ _ (lookup-append_some test xs ys e) h

  none_first : (b : Bool) (e : T × ℕ) (r s t : Option (T × ℕ)) → (r ≡ None → s ≡ t) → cond b (Some e) r ≡ None → cond b (Some e) s ≡ t
  none_first true e r s t f h = absurd (cc)
  none_first false e r s t f h = f h

  pub lookup-append_none : (test : T → Bool) (xs ys : List (T × ℕ)) → lookup_entry test xs ≡ None → lookup_entry test (xs ++ ys) ≡ lookup_entry test ys
  lookup-append_none test [] ys h = refl
  lookup-append_none test (x ∷ xs) ys h = none_first (test x.0) x _ _ _ (lookup-append_none test xs ys) h

  none_whole : (b : Bool) (e : T × ℕ) (r s : Option (T × ℕ)) → (s ≡ None → r ≡ None) → cond b (Some e) s ≡ None → cond b (Some e) r ≡ None
  none_whole true e r s f h = h
  none_whole false e r s f h = f h

  pub lookup-append_left : (test : T → Bool) (xs ys : List (T × ℕ)) → lookup_entry test (xs ++ ys) ≡ None → lookup_entry test xs ≡ None
  lookup-append_left test [] ys h = refl
  lookup-append_left test (x ∷ xs) ys h = none_whole (test x.0) x _ _ (lookup-append_left test xs ys) h

  -- what is found in the newer table, or not there but in the older one, is the entry of the map of both
  pub found_newer : (test : T → Bool) (newer : List (Slot T)) (rest : List (T × ℕ)) (p : ℕ) → HoldsAt test newer p → slot_entry (slot_at newer p) ≡ lookup_entry test (entries newer)
      → slot_entry (slot_at newer p) ≡ lookup_entry test (entries newer ++ rest)
  found_newer test newer rest p held is =
      let h = holder test (slot_at newer p) held.1 in
      let e : slot_entry (slot_at newer p) ≡ Some (h.0, h.1) = ap slot_entry h.2 in
      e ∙ sym (lookup-append_some test (entries newer) rest (h.0, h.1) (sym is ∙ e))

  pub found_older : (test : T → Bool) (r : Option (T × ℕ)) (newer older : List (Slot T)) (carried_to : ℕ) → carried_to ≤ length older → ((p : ℕ) → p < carried_to → is_live (slot_at older p) ≡ false)
      → None ≡ lookup_entry test (entries newer) → r ≡ lookup_entry test (entries older)
      → r ≡ lookup_entry test (entries newer ++ entries (drop carried_to older))
  found_older test r newer older carried_to le dead none is =
      is ∙ ap (lookup_entry test) (sym (entries-drop older carried_to le dead))
      ∙ sym (lookup-append_none test (entries newer) (entries (drop carried_to older)) (sym none))

  -- a value that is not looked up is in no slot
  pub absent_slots : (test : T → Bool) (ss : List (Slot T)) → lookup_entry test (entries ss) ≡ None → IsAbsent test ss
  absent_slots test [] h p lt = absurd (omega arith)
  absent_slots test (Empty ∷ ss) h zero lt = refl
  absent_slots test (Removed ∷ ss) h zero lt = refl
  absent_slots test (Moved ∷ ss) h zero lt = refl
  absent_slots test (Live v n ∷ ss) h zero lt = none_head (test v) (v, n) _ h
    where
      none_head : (b : Bool) (e : T × ℕ) (r : Option (T × ℕ)) → cond b (Some e) r ≡ None → b ≡ false
      none_head true e r h = absurd (cc)
      none_head false e r h = refl
  absent_slots test (Empty ∷ ss) h (suc p) lt = absent_slots test ss h p (omega arith)
  absent_slots test (Removed ∷ ss) h (suc p) lt = absent_slots test ss h p (omega arith)
  absent_slots test (Moved ∷ ss) h (suc p) lt = absent_slots test ss h p (omega arith)
  absent_slots test (Live v n ∷ ss) h (suc p) lt = absent_slots test ss (none_tail (test v) (v, n) _ h) p (omega arith)
    where
      none_tail : (b : Bool) (e : T × ℕ) (r : Option (T × ℕ)) → cond b (Some e) r ≡ None → r ≡ None
      none_tail true e r h = absurd (cc)
      none_tail false e r h = h

module _ {T : Type 0} (eq : T → T → Bool) (x : T) where
  -- an absent value is in no slot of either list
  pub absent_both : (newer waiting : List (Slot T)) → lookup_entry (eq x) (entries newer ++ entries waiting) ≡ None → IsAbsent (eq x) newer × IsAbsent (eq x) waiting
  absent_both newer waiting h =
      let left = lookup-append_left (eq x) (entries newer) (entries waiting) h in (
        absent_slots (eq x) newer left,
        absent_slots (eq x) waiting (sym (lookup-append_none (eq x) (entries newer) (entries waiting) left) ∙ h),
      )

module _ {T : Type 0} (test : T → Bool) where
  head_no : (b : Bool) (e : T × ℕ) (r : Option (T × ℕ)) → cond b (Some e) r ≡ None → b ≡ false
  head_no true e r h = absurd (cc)
  head_no false e r h = refl

  tail_no : (b : Bool) (e : T × ℕ) (r : Option (T × ℕ)) → cond b (Some e) r ≡ None → r ≡ None
  tail_no true e r h = absurd (cc)
  tail_no false e r h = h

  both_no : (b : Bool) (e : T × ℕ) (r : Option (T × ℕ)) → b ≡ false → r ≡ None → cond b (Some e) r ≡ None
  both_no true e r h k = absurd (cc)
  both_no false e r h k = k

  none_all : (es : List (T × ℕ)) → lookup_entry test es ≡ None → All (λ e. test e.0 ≡ false) es
  none_all [] h = λ k d lt. absurd (omega arith)
  none_all (e ∷ es) h = All-cons (λ e. test e.0 ≡ false) e es (head_no (test e.0) e _ h) (none_all es (tail_no (test e.0) e _ h))

  all_none : (es : List (T × ℕ)) → All (λ e. test e.0 ≡ false) es → lookup_entry test es ≡ None
  all_none [] h = refl
  all_none (e ∷ es) h = both_no (test e.0) e _ (h 0 e (omega arith)) (all_none es (λ k d lt. h (suc k) d (omega arith)))

  -- a value that is absent is so in any order
  pub absent_rearranged : (es fs : List (T × ℕ)) → IsPermutation es fs → lookup_entry test es ≡ None → lookup_entry test fs ≡ None
  absent_rearranged es fs h none = all_none fs (All-permutation (λ e. test e.0 ≡ false) es fs h (none_all es none))

  keys_no : (es : List (T × ℕ)) → lookup_entry test es ≡ None → AllByRecursion (λ y. test y ≡ false) (keys_of es)
  keys_no [] h = tt
  keys_no (e ∷ es) h = (head_no (test e.0) e _ h, keys_no es (tail_no (test e.0) e _ h))

-- a new value beside the others
pub IsCounted-cons : {T : Type 0} (eq : T → T → Bool) (v : T) (n : ℕ) (es : List (T × ℕ)) → lookup_entry (eq v) es ≡ None → 0 < n → IsCounted eq es → IsCounted eq ((v, n) ∷ es)
IsCounted-cons eq v n es absent some before = record {
  distinct = IsDistinct-cons eq v (keys_of es) (keys_no (eq v) es absent) before.distinct;
  positive = All-cons (λ m. 0 < m) n _ some before.positive;
}
