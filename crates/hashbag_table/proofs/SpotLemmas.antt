-- One slot of two tables is written.
use Rattle.std.proofs.Common.{◌≡◌, ℕ, zero, suc, ◌+◌, ◌-◌, ◌<◌, ◌≤◌, Bool, true, false, cond, List, [], ◌∷◌, length, drop, Option, Some, None, refl, sym, ap, subst, ◌∙◌, inl, inr, arith, slice_set, IsSome, option_map, unwrap_or}
use Rattle.std.specs.Cmp.{IsEquivalence}
use Rattle.std.specs.Map.{lookup_entry, remove_entry, keys_of}
use Rattle.std.specs.List.Sorted.{IsPermutation}
use Rattle.std.proofs.lemmas.Bool.{cases_lt}
use Rattle.std.proofs.lemmas.List.{length-set, length-drop, drop-set-add, set-get_or, get_or-drop}
use Rattle.std.proofs.lemmas.List.Elements.{All-cons}
use Rattle.std.proofs.lemmas.List.Sorted.{IsPermutation-refl, IsPermutation-sym, IsPermutation-cons, IsPermutation-trans, IsPermutation-middle, IsPermutation-append_right, IsPermutation-append_left}
use Rattle.std.specs.List.{AllByRecursion}
use Rattle.std.proofs.lemmas.Map.Keys.{IsDistinct-head, IsDistinct-tail}
use Rattle.hashbag_slots.specs.declared.slots.Slot.{Slot}
use Rattle.hashbag_slots.specs.declared.slots.Slot.TheVariants.{Empty, Removed, Moved, Live}
use Rattle.hashbag_slots.specs.Slots.{is_live, is_removed, holds, recounted, slot_entry, live_count, removed_count, slot_at, IsAbsent, entries}
use Rattle.hashbag_slots.specs.Columns.{Columns, IsReached}
use Rattle.hashbag_slots.proofs.Edits.{count-set, set_cases}
use Rattle.hashbag_slots.proofs.Writing.{set_twice}
use Rattle.hashbag_slots.proofs.Tables.{within_table}
use Rattle.hashbag_slots.proofs.Probing.{holder}
use Rattle.hashbag_table.specs.Entries.{IsCounted, with_count, without, with_fewer, with_instance, count_of}
use Rattle.hashbag_table.specs.Tables.{most_used, Tables, NoneMoved, entries_of, IsTables, Swaps, HoldsIn, slot_in}
use Rattle.hashbag_table.specs.declared.table.Spot.{Spot}
use Rattle.hashbag_table.specs.declared.table.Spot.TheVariants.{Newer, Waiting}
use Rattle.hashbag_table.proofs.EntryLemmas.{counted_rearranged, stored-present, lookup-entry, with_fewer-some, with_fewer-all, without_absent, with_count-absent}
use Rattle.hashbag_table.proofs.UnmovedLemmas.{unmoved_set}
use Rattle.hashbag_table.proofs.WithoutLemmas.{without_rearranged}
use Rattle.hashbag_table.proofs.SlotLemmas.{IsCounted-cons, entries_put}

-- 1 for a yes
abbrev one_if : Bool → ℕ
one_if b = cond b 1 0

module _ {T : Type 0} where
  head_dead : (s : Slot T) (ss : List (Slot T)) → is_live s ≡ false → entries (s ∷ ss) ≡ entries ss
  head_dead Empty ss h = refl
  head_dead Removed ss h = refl
  head_dead Moved ss h = refl
  head_dead (Live v n) ss h = absurd (cc)

  -- the slot at a place written over by Removed, and by a value
  put_removed : (ss : List (Slot T)) (p : ℕ) (v : T) (n : ℕ) → p < length ss → IsPermutation ((v, n) ∷ entries (slice_set ss p Removed)) (entries (slice_set ss p (Live v n)))
  put_removed ss p v n lt =
      let len = length-set ss p Removed in
      subst (λ us. IsPermutation ((v, n) ∷ entries (slice_set ss p Removed)) (entries us)) (set_twice ss p Removed (Live v n))
      (entries_put (slice_set ss p Removed) p v n (omega arith) (removed_there ss p lt))
    where
      removed_there : (ss : List (Slot T)) (p : ℕ) → p < length ss → is_live (slot_at (slice_set ss p Removed) p) ≡ false
      removed_there [] p lt = absurd (omega arith)
      removed_there (s ∷ ss) zero lt = refl
      removed_there (s ∷ ss) (suc p) lt = removed_there ss p (omega arith)

  take_removed : (ss : List (Slot T)) (p : ℕ) (v : T) (n : ℕ) → p < length ss → slot_at ss p ≡ Live v n → IsPermutation (entries ss) ((v, n) ∷ entries (slice_set ss p Removed))
  take_removed ss p v n lt was =
      IsPermutation-sym _ _ (subst (λ us. IsPermutation ((v, n) ∷ entries (slice_set ss p Removed)) (entries us)) (ap (slice_set ss p) (sym was) ∙ set-get_or ss p Empty) (put_removed ss p v n lt))

  module _ (ss ts : List (Slot T)) (p : ℕ) (v : T) (m : ℕ) where
    newer_first : p < length ss → slot_at ss p ≡ Live v m → IsPermutation (entries_of ss ts) ((v, m) ∷ entries_of (slice_set ss p Removed) ts)
    newer_first lt was = IsPermutation-append_left (entries ts) _ _ (take_removed ss p v m lt was)

    pub take_first : p < length ts → slot_at ts p ≡ Live v m → IsPermutation (entries_of ss ts) ((v, m) ∷ entries_of ss (slice_set ts p Removed))
    take_first lt was = IsPermutation-trans _ _ _ (IsPermutation-append_right (entries ss) _ _ (take_removed ts p v m lt was)) (IsPermutation-middle (entries ss) (v, m) _)

    pub swap_newer : (x : T) (k : ℕ) → p < length ss → slot_at ss p ≡ Live v m → Swaps (entries_of ss ts) (entries_of (slice_set ss p (Live x k)) ts) (v, m) ((x, k) ∷ [])
    swap_newer x k lt was = record { rest = _; before = newer_first lt was; after = IsPermutation-append_left (entries ts) _ _ (put_removed ss p x k lt) }

    pub take_newer : p < length ss → slot_at ss p ≡ Live v m → Swaps (entries_of ss ts) (entries_of (slice_set ss p Removed) ts) (v, m) []
    take_newer lt was = record { rest = _; before = newer_first lt was; after = IsPermutation-refl _ }

    pub swap_waiting : (x : T) (k : ℕ) → p < length ts → slot_at ts p ≡ Live v m → Swaps (entries_of ss ts) (entries_of ss (slice_set ts p (Live x k))) (v, m) ((x, k) ∷ [])
    swap_waiting x k lt was = record {
      rest = _;
      before = take_first lt was;
      after = IsPermutation-trans _ _ _ (IsPermutation-sym _ _ (IsPermutation-middle (entries ss) (x, k) _)) (IsPermutation-append_right (entries ss) _ _ (put_removed ts p x k lt));
    }

    pub take_waiting : p < length ts → slot_at ts p ≡ Live v m → Swaps (entries_of ss ts) (entries_of ss (slice_set ts p Removed)) (v, m) []
    take_waiting lt was = record { rest = _; before = take_first lt was; after = IsPermutation-refl _ }

module _ {T : Type 0} (eq : T → T → Bool) (laws : IsEquivalence eq) where
  pub tail_counted : (e : T × ℕ) (rest : List (T × ℕ)) → IsCounted eq (e ∷ rest) → IsCounted eq rest
  tail_counted e rest h = record {
    distinct = IsDistinct-tail eq e.0 (keys_of rest) h.distinct;
    positive = λ k d lt. h.positive (suc k) d (omega arith);
  }

  counted_anew : (v : T) (m k : ℕ) (rest : List (T × ℕ)) → 0 < k → IsCounted eq ((v, m) ∷ rest) → IsCounted eq ((v, k) ∷ rest)
  counted_anew v m k rest pos h = record {
    distinct = h.distinct;
    positive = All-cons (λ n. 0 < n) k _ pos (tail_counted (v, m) rest h).positive;
  }

  pub counted_swap : (es new : List (T × ℕ)) (v : T) (m k : ℕ) → 0 < k → IsCounted eq es → Swaps es new (v, m) ((v, k) ∷ []) → IsCounted eq new
  counted_swap es new v m k pos h swap = counted_rearranged laws _ _ swap.after (counted_anew v m k swap.rest pos (counted_rearranged laws _ _ swap.before h))

  pub counted_take : (es new : List (T × ℕ)) (e : T × ℕ) → IsCounted eq es → Swaps es new e [] → IsCounted eq new
  counted_take es new e h swap = counted_rearranged laws _ _ swap.after (tail_counted e swap.rest (counted_rearranged laws _ _ swap.before h))

  found_step : (b : Bool) (x e : T × ℕ) (r : Option (T × ℕ)) (P : Type 0) → (x ≡ e → b ≡ true → P) → (r ≡ Some e → P) → cond b (Some x) r ≡ Some e → P
  found_step true x e r P f g h = f (let z : x ≡ e = cc in z) refl
  found_step false x e r P f g h = g h

  found_equal : (x : T) (es : List (T × ℕ)) (e : T × ℕ) → lookup_entry (eq x) es ≡ Some e → eq x e.0 ≡ true
  found_equal x [] e h = absurd (cc)
  found_equal x (y ∷ es) e h = found_step (eq x y.0) y e _ (eq x e.0 ≡ true) (λ same yes. ap (λ z. eq x z.0) (sym same) ∙ yes) (found_equal x es e) h

  -- the map without a value is what is left where that value's entry is taken
  without_swapped : (x : T) (es rest : List (T × ℕ)) (e : T × ℕ) → IsCounted eq es → lookup_entry (eq x) es ≡ Some e → IsPermutation es (e ∷ rest) → IsPermutation (without eq x es) rest
  without_swapped x es rest e h found before =
      let same : without eq x (e ∷ rest) ≡ rest = ap (λ b. cond b rest (e ∷ remove_entry (eq x) rest)) (found_equal x es e found) in
      subst (IsPermutation (without eq x es)) same (without_rearranged laws x es (e ∷ rest) h.distinct (counted_rearranged laws _ _ before h).distinct before)

  pub set_swapped : (x : T) (n : ℕ) (es new : List (T × ℕ)) (e : T × ℕ) → IsCounted eq es → lookup_entry (eq x) es ≡ Some e → Swaps es new e ((e.0, n) ∷ []) → IsPermutation (with_count eq x n es) new
  set_swapped x n es new e h found swap =
      subst (λ v. IsPermutation ((v, n) ∷ without eq x es) new) (sym (stored-present eq x es e found))
      (IsPermutation-trans _ _ _ (IsPermutation-cons (e.0, n) _ _ (without_swapped x es swap.rest e h found swap.before)) swap.after)

  pub take_swapped : (x : T) (es new : List (T × ℕ)) (e : T × ℕ) → IsCounted eq es → lookup_entry (eq x) es ≡ Some e → Swaps es new e [] → IsPermutation (without eq x es) new
  take_swapped x es new e h found swap = IsPermutation-trans _ _ _ (without_swapped x es swap.rest e h found swap.before) swap.after

module _ {T : Type 0} (eq : T → T → Bool) (hash : T → ℕ) (newer older : Columns T) (carried_to : ℕ) (before : IsTables eq hash newer older carried_to) where
  -- a Live slot that waits was not looked at
  pub later : (p : ℕ) → is_live (slot_at older.slots p) ≡ true → carried_to ≤ p
  later p h = elim (cases_lt p carried_to) [
    | inl a ↦ absurd (let d = before.tables.carried_not_live p a in cc)
    | inr b ↦ b
  ]

  pub waiting_at : (p : ℕ) → carried_to ≤ p → slot_at (drop carried_to older.slots) (p - carried_to) ≡ slot_at older.slots p
  waiting_at p le = let e : carried_to + (p - carried_to) ≡ p = omega arith in get_or-drop carried_to older.slots (p - carried_to) Empty ∙ ap (slot_at older.slots) e

  module _ (p : ℕ) (v : T) (m : ℕ) (s : Slot T) (quiet : (x : T) → eq x v ≡ false → holds (eq x) s ≡ false) (used : one_if (is_live s) + one_if (is_removed s) ≡ 1) where
    not_moved : s ≡ Moved → ⊥
    not_moved e = absurd (let z : one_if (is_live {T = T} Moved) + one_if (is_removed {T = T} Moved) ≡ 1 = subst (λ x. one_if (is_live x) + one_if (is_removed x) ≡ 1) e used in omega arith)

    pub IsTables-newer : (newer1 : Columns T) → p < length newer.slots → slot_at newer.slots p ≡ Live v m → newer1.slots ≡ slice_set newer.slots p s → IsReached hash newer1
        → IsCounted eq (entries_of newer1.slots (drop carried_to older.slots)) → IsTables eq hash newer1 older carried_to
    IsTables-newer newer1 lt was now reached counted =
        let w = drop carried_to older.slots in
        let len : length newer1.slots ≡ length newer.slots = ap length now ∙ length-set newer.slots p s in
        let a = count-set newer.slots p s lt is_live in let b = count-set newer.slots p s lt is_removed in
        let was_live : one_if (is_live (slot_at newer.slots p)) ≡ 1 = ap (λ x. one_if (is_live x)) was in
        let was_kept : one_if (is_removed (slot_at newer.slots p)) ≡ 0 = ap (λ x. one_if (is_removed x)) was in
        let x : live_count newer1.slots ≡ live_count (slice_set newer.slots p s) = ap live_count now in let y : removed_count newer1.slots ≡ removed_count (slice_set newer.slots p s) = ap removed_count now in
        let sum : live_count newer1.slots + removed_count newer1.slots ≡ live_count newer.slots + removed_count newer.slots = omega (arith, a, b, was_live, was_kept, x, y, used) in
        let limits : most_used (length newer1.slots) ≡ most_used (length newer.slots) = ap most_used len in
        record {
          tables = record {
            newer_reached = reached;
            older_reached = before.tables.older_reached;
            apart = λ q x n here i inside.
                ap (λ ss. holds (eq x) (slot_at ss i)) now
                ∙ elim (set_cases newer.slots p s lt i) [
                  | inl at ↦ ap (holds (eq x)) at.1 ∙ quiet x (sym (ap (holds (eq x)) was) ∙ before.tables.apart q x n here p lt)
                  | inr at ↦ ap (holds (eq x)) at.1 ∙ before.tables.apart q x n here i (omega (arith, len, inside))
                ];
            unmoved = subst NoneMoved (sym now) (unmoved_set newer.slots p s lt not_moved before.tables.unmoved);
            carried_within = before.tables.carried_within;
            carried_not_live = before.tables.carried_not_live;
            fits = let f = before.tables.fits in omega (arith, sum, limits, f);
          };
          counted = counted;
          carries = let c = before.carries in omega (arith, sum, limits, c);
          smaller = elim before.smaller [
            | inl none ↦ inl none
            | inr more ↦ inr (omega (arith, len, more))
          ];
          freed = before.freed;
        }

    pub IsTables-older : (older1 : Columns T) → carried_to + p < length older.slots → slot_at older.slots (carried_to + p) ≡ Live v m → older1.slots ≡ slice_set older.slots (carried_to + p) s → IsReached hash older1
        → ((x : T) (n : ℕ) → s ≡ Live x n → IsAbsent (eq v) newer.slots → IsAbsent (eq x) newer.slots) → IsCounted eq (entries_of newer.slots (drop carried_to older1.slots)) → IsTables eq hash newer older1 carried_to
    IsTables-older older1 lt was now reached same counted =
        let w = drop carried_to older.slots in
        let len : length older1.slots ≡ length older.slots = ap length now ∙ length-set older.slots (carried_to + p) s in
        let cut : drop carried_to older1.slots ≡ slice_set w p s = ap (drop carried_to) now ∙ drop-set-add carried_to older.slots p s in
        let there : slot_at w p ≡ Live v m = get_or-drop carried_to older.slots p Empty ∙ was in
        let within : p < length w = let l = length-drop carried_to older.slots in omega (arith, l, lt) in
        let waits : length (drop carried_to older1.slots) ≡ length w = ap length cut ∙ length-set w p s in
        let a = count-set w p s within is_live in
        let was_live : one_if (is_live (slot_at w p)) ≡ 1 = ap (λ x. one_if (is_live x)) there in
        let x : live_count (drop carried_to older1.slots) ≡ live_count (slice_set w p s) = ap live_count cut in
        let fewer : live_count (drop carried_to older1.slots) ≤ live_count w = omega (arith, a, was_live, x, used) in
        record {
          tables = record {
            newer_reached = before.tables.newer_reached;
            older_reached = reached;
            apart = λ q x n here.
                elim (set_cases older.slots (carried_to + p) s lt q) [
                  | inl at ↦ same x n (sym at.1 ∙ ap (λ ss. slot_at ss q) (sym now) ∙ here) (before.tables.apart (carried_to + p) v m was)
                  | inr at ↦ before.tables.apart q x n (sym at.1 ∙ ap (λ ss. slot_at ss q) (sym now) ∙ here)
                ];
            unmoved = before.tables.unmoved;
            carried_within = let l = before.tables.carried_within in omega (arith, l, len);
            carried_not_live = λ q below.
                ap (λ ss. is_live (slot_at ss q)) now
                ∙ elim (set_cases older.slots (carried_to + p) s lt q) [
                  | inl at ↦ absurd (let e = at.0 in omega (arith, below, e))
                  | inr at ↦ ap is_live at.1 ∙ before.tables.carried_not_live q below
                ];
            fits = let f = before.tables.fits in omega (arith, fewer, f);
          };
          counted = counted;
          carries = let c = before.carries in omega (arith, fewer, waits, c);
          smaller = elim before.smaller [
            | inl none ↦ absurd (let z : length w ≡ 0 = ap length none in omega (arith, within, z))
            | inr more ↦ inr (omega (arith, waits, more))
          ];
          freed = λ all. absurd (omega (arith, lt, len, all));
        }

live_is : {T : Type 0} (s : Slot T) → is_live s ≡ true → (v : T) × (n : ℕ) × (s ≡ Live v n)
live_is Empty h = absurd (cc)
live_is Removed h = absurd (cc)
live_is Moved h = absurd (cc)
live_is (Live v n) h = (v, n, refl)

some_same : {X : Type 0} (x y : X) → Some x ≡ Some y → x ≡ y
some_same x y e = cc

pub is_some : {X : Type 0} (o : Option X) → IsSome o → (x : X) × (o ≡ Some x)
is_some None h = absurd (cc)
is_some (Some x) h = (x, refl)

-- a slot that is Live is given another count, or its value is taken
module _ {T : Type 0} (eq : T → T → Bool) (laws : IsEquivalence eq) (hash : T → ℕ) (newer older : Columns T) (carried_to : ℕ) (before : IsTables eq hash newer older carried_to) (p : ℕ) where
  module _ (k : ℕ) (pos : 0 < k) (newer1 : Columns T) (live : is_live (slot_at newer.slots p) ≡ true)
      (now : newer1.slots ≡ slice_set newer.slots p (recounted k (slot_at newer.slots p))) (reached : IsReached hash newer1) where
    newer_live : (v : T) × (n : ℕ) × (slot_at newer.slots p ≡ Live v n)
    newer_live = live_is (slot_at newer.slots p) live

    set_newer_swap : Swaps (entries_of newer.slots (drop carried_to older.slots)) (entries_of newer1.slots (drop carried_to older.slots)) (newer_live.0, newer_live.1) ((newer_live.0, k) ∷ [])
    set_newer_swap =
        let l = newer_live in
        let w = drop carried_to older.slots in
        subst (λ ss. Swaps (entries_of newer.slots w) (entries_of ss w) (l.0, l.1) ((l.0, k) ∷ [])) (sym (now ∙ ap (λ s. slice_set newer.slots p (recounted k s)) l.2))
        (swap_newer newer.slots w p l.0 l.1 l.0 k (within_table newer.slots p live) l.2)

    pub set_newer_map : (e : T × ℕ) → slot_entry (slot_at newer.slots p) ≡ Some e → Swaps (entries_of newer.slots (drop carried_to older.slots)) (entries_of newer1.slots (drop carried_to older.slots)) e ((e.0, k) ∷ [])
    set_newer_map e h =
        let l = newer_live in let w = drop carried_to older.slots in
        let same = some_same (l.0, l.1) e (sym (ap slot_entry l.2) ∙ h) in
        subst (λ (x : T × ℕ). Swaps (entries_of newer.slots w) (entries_of newer1.slots w) x ((x.0, k) ∷ [])) same set_newer_swap

    pub set_newer_tables : IsTables eq hash newer1 older carried_to
    set_newer_tables =
        let l = newer_live in
        IsTables-newer eq hash newer older carried_to before p l.0 l.1 (Live l.0 k) (λ test h. h) refl newer1 (within_table newer.slots p live) l.2
        (now ∙ ap (λ s. slice_set newer.slots p (recounted k s)) l.2) reached
        (counted_swap eq laws _ _ l.0 l.1 k pos before.counted set_newer_swap)

  module _ (v : T) (m : ℕ) (newer1 : Columns T) (was : slot_at newer.slots p ≡ Live v m) (now : newer1.slots ≡ slice_set newer.slots p Removed) (reached : IsReached hash newer1) where
    pub take_newer_map : Swaps (entries_of newer.slots (drop carried_to older.slots)) (entries_of newer1.slots (drop carried_to older.slots)) (v, m) []
    take_newer_map =
        let w = drop carried_to older.slots in
        subst (λ ss. Swaps (entries_of newer.slots w) (entries_of ss w) (v, m) []) (sym now) (take_newer newer.slots w p v m (within_table newer.slots p (ap is_live was)) was)

    pub take_newer_tables : IsTables eq hash newer1 older carried_to
    take_newer_tables =
        IsTables-newer eq hash newer older carried_to before p v m Removed (λ test h. refl) refl newer1 (within_table newer.slots p (ap is_live was)) was now reached
        (counted_take eq laws _ _ (v, m) before.counted take_newer_map)

  module _ (k : ℕ) (pos : 0 < k) (older1 : Columns T) (live : is_live (slot_at (drop carried_to older.slots) p) ≡ true)
      (now : older1.slots ≡ slice_set older.slots (carried_to + p) (recounted k (slot_at older.slots (carried_to + p)))) (reached : IsReached hash older1) where
    pub set_waiting_slots : drop carried_to older1.slots ≡ slice_set (drop carried_to older.slots) p (recounted k (slot_at (drop carried_to older.slots) p))
    set_waiting_slots =
        ap (drop carried_to) now ∙ drop-set-add carried_to older.slots p (recounted k (slot_at older.slots (carried_to + p)))
        ∙ ap (λ s. slice_set (drop carried_to older.slots) p (recounted k s)) (sym (get_or-drop carried_to older.slots p Empty))

    set_waiting_swap : Swaps (entries_of newer.slots (drop carried_to older.slots)) (entries_of newer.slots (drop carried_to older1.slots)) ((live_is (slot_at (drop carried_to older.slots) p) live).0, (live_is (slot_at (drop carried_to older.slots) p) live).1) (((live_is (slot_at (drop carried_to older.slots) p) live).0, k) ∷ [])
    set_waiting_swap =
        let w = drop carried_to older.slots in
        let l = live_is (slot_at w p) live in
        subst (λ ss. Swaps (entries_of newer.slots w) (entries_of newer.slots ss) (l.0, l.1) ((l.0, k) ∷ [])) (sym (set_waiting_slots ∙ ap (λ s. slice_set w p (recounted k s)) l.2))
        (swap_waiting newer.slots w p l.0 l.1 l.0 k (within_table w p live) l.2)

    pub set_waiting_map : (e : T × ℕ) → slot_entry (slot_at (drop carried_to older.slots) p) ≡ Some e → Swaps (entries_of newer.slots (drop carried_to older.slots)) (entries_of newer.slots (drop carried_to older1.slots)) e ((e.0, k) ∷ [])
    set_waiting_map e h =
        let w = drop carried_to older.slots in
        let l = live_is (slot_at w p) live in
        let same : (l.0, l.1) ≡ e = some_same (l.0, l.1) e (sym (ap slot_entry l.2) ∙ h) in
        subst (λ (x : T × ℕ). Swaps (entries_of newer.slots w) (entries_of newer.slots (drop carried_to older1.slots)) x ((x.0, k) ∷ [])) same set_waiting_swap

    pub set_waiting_tables : IsTables eq hash newer older1 carried_to
    set_waiting_tables =
        let w = drop carried_to older.slots in
        let l = live_is (slot_at w p) live in
        let inside = within_table w p live in let d = length-drop carried_to older.slots in
        let there : slot_at older.slots (carried_to + p) ≡ Live l.0 l.1 = sym (get_or-drop carried_to older.slots p Empty) ∙ l.2 in
        IsTables-older eq hash newer older carried_to before p l.0 l.1 (Live l.0 k) (λ test h. h) refl older1 (omega (arith, inside, d)) there
        (now ∙ ap (λ s. slice_set older.slots (carried_to + p) (recounted k s)) there) reached
        (λ x n e a. let z : l.0 ≡ x = cc in subst (λ y. IsAbsent (eq y) newer.slots) z a)
        (counted_swap eq laws _ _ l.0 l.1 k pos before.counted set_waiting_swap)

  module _ (v : T) (m : ℕ) (older1 : Columns T) (was : slot_at older.slots (carried_to + p) ≡ Live v m) (now : older1.slots ≡ slice_set older.slots (carried_to + p) Removed) (reached : IsReached hash older1) where
    pub take_waiting_slots : drop carried_to older1.slots ≡ slice_set (drop carried_to older.slots) p Removed
    take_waiting_slots = ap (drop carried_to) now ∙ drop-set-add carried_to older.slots p Removed

    pub was_waiting : slot_at (drop carried_to older.slots) p ≡ Live v m
    was_waiting = get_or-drop carried_to older.slots p Empty ∙ was

    pub take_waiting_map : Swaps (entries_of newer.slots (drop carried_to older.slots)) (entries_of newer.slots (drop carried_to older1.slots)) (v, m) []
    take_waiting_map =
        let w = drop carried_to older.slots in
        subst (λ ss. Swaps (entries_of newer.slots w) (entries_of newer.slots ss) (v, m) []) (sym take_waiting_slots) (take_waiting newer.slots w p v m (within_table w p (ap is_live was_waiting)) was_waiting)

    pub take_waiting_tables : IsTables eq hash newer older1 carried_to
    take_waiting_tables =
        IsTables-older eq hash newer older carried_to before p v m Removed (λ test h. refl) refl older1 (within_table older.slots (carried_to + p) (ap is_live was)) was now reached
        (λ x n e a. absurd (cc))
        (counted_take eq laws _ _ (v, m) before.counted take_waiting_map)

pub put_swapped : {T : Type 0} (eq : T → T → Bool) → IsEquivalence eq → (x : T) (es new : List (T × ℕ)) (e : T × ℕ) → IsCounted eq es → lookup_entry (eq x) es ≡ Some e → Swaps es new e ((x, 1) ∷ []) → IsPermutation (with_instance eq x 1 es) new
put_swapped eq laws x es new e h found swap = IsPermutation-trans _ _ _ (IsPermutation-cons (x, 1) _ _ (without_swapped eq laws x es swap.rest e h found swap.before)) swap.after

-- another equal instance takes the place of the one that is stored, with the count 1
module _ {T : Type 0} (eq : T → T → Bool) (laws : IsEquivalence eq) (v x : T) (equal : eq v x ≡ true) where
  none_equal : (es : List (T × ℕ)) → AllByRecursion (λ y. eq v y ≡ false) (keys_of es) → lookup_entry (eq x) es ≡ None
  none_equal [] h = refl
  none_equal (e ∷ es) h = ap (λ b. cond b (Some e) (lookup_entry (eq x) es)) (sym (laws.congr v x e.0 equal) ∙ h.0) ∙ none_equal es h.1

  pub counted_put : (es new : List (T × ℕ)) (m : ℕ) → IsCounted eq es → Swaps es new (v, m) ((x, 1) ∷ []) → IsCounted eq new
  counted_put es new m h swap =
      let before = counted_rearranged laws _ _ swap.before h in
      counted_rearranged laws _ _ swap.after (IsCounted-cons eq x 1 swap.rest (none_equal swap.rest (IsDistinct-head eq v (keys_of swap.rest) before.distinct)) (omega arith) (tail_counted eq laws (v, m) swap.rest before))

  quiet_put : (y : T) → eq y v ≡ false → holds (eq y) (Live x 1) ≡ false
  quiet_put y h = laws.symm y x ∙ sym (laws.congr v x y equal) ∙ laws.symm v y ∙ h

  absent_put : (ss : List (Slot T)) → IsAbsent (eq v) ss → IsAbsent (eq x) ss
  absent_put ss h p lt = same (slot_at ss p) ∙ h p lt where
    same : (s : Slot T) → holds (eq x) s ≡ holds (eq v) s
    same Empty = refl
    same Removed = refl
    same Moved = refl
    same (Live y n) = sym (laws.congr v x y equal)

  module _ (hash : T → ℕ) (newer older : Columns T) (carried_to : ℕ) (before : IsTables eq hash newer older carried_to) (p m : ℕ) where
    module _ (newer1 : Columns T) (was : slot_at newer.slots p ≡ Live v m) (now : newer1.slots ≡ slice_set newer.slots p (Live x 1)) (reached : IsReached hash newer1) where
      pub put_newer_map : Swaps (entries_of newer.slots (drop carried_to older.slots)) (entries_of newer1.slots (drop carried_to older.slots)) (v, m) ((x, 1) ∷ [])
      put_newer_map =
          let w = drop carried_to older.slots in
          subst (λ ss. Swaps (entries_of newer.slots w) (entries_of ss w) (v, m) ((x, 1) ∷ [])) (sym now) (swap_newer newer.slots w p v m x 1 (within_table newer.slots p (ap is_live was)) was)

      pub put_newer_at : (e : T × ℕ) → slot_entry (slot_at newer.slots p) ≡ Some e → Swaps (entries_of newer.slots (drop carried_to older.slots)) (entries_of newer1.slots (drop carried_to older.slots)) e ((x, 1) ∷ [])
      put_newer_at e h =
          let w = drop carried_to older.slots in
          subst (λ (y : T × ℕ). Swaps (entries_of newer.slots w) (entries_of newer1.slots w) y ((x, 1) ∷ [])) (some_same (v, m) e (sym (ap slot_entry was) ∙ h)) put_newer_map

      pub put_newer_tables : IsTables eq hash newer1 older carried_to
      put_newer_tables =
          IsTables-newer eq hash newer older carried_to before p v m (Live x 1) quiet_put refl newer1 (within_table newer.slots p (ap is_live was)) was now reached
          (counted_put _ _ m before.counted put_newer_map)

    module _ (older1 : Columns T) (was : slot_at older.slots (carried_to + p) ≡ Live v m) (now : older1.slots ≡ slice_set older.slots (carried_to + p) (Live x 1)) (reached : IsReached hash older1) where
      pub put_waiting_slots : drop carried_to older1.slots ≡ slice_set (drop carried_to older.slots) p (Live x 1)
      put_waiting_slots = ap (drop carried_to) now ∙ drop-set-add carried_to older.slots p (Live x 1)

      put_was : slot_at (drop carried_to older.slots) p ≡ Live v m
      put_was = get_or-drop carried_to older.slots p Empty ∙ was

      pub put_waiting_map : Swaps (entries_of newer.slots (drop carried_to older.slots)) (entries_of newer.slots (drop carried_to older1.slots)) (v, m) ((x, 1) ∷ [])
      put_waiting_map =
          let w = drop carried_to older.slots in
          subst (λ ss. Swaps (entries_of newer.slots w) (entries_of newer.slots ss) (v, m) ((x, 1) ∷ [])) (sym put_waiting_slots) (swap_waiting newer.slots w p v m x 1 (within_table w p (ap is_live put_was)) put_was)

      pub put_waiting_at : (e : T × ℕ) → slot_entry (slot_at (drop carried_to older.slots) p) ≡ Some e → Swaps (entries_of newer.slots (drop carried_to older.slots)) (entries_of newer.slots (drop carried_to older1.slots)) e ((x, 1) ∷ [])
      put_waiting_at e h =
          subst (λ (y : T × ℕ). Swaps (entries_of newer.slots (drop carried_to older.slots)) (entries_of newer.slots (drop carried_to older1.slots)) y ((x, 1) ∷ [])) (some_same (v, m) e (sym (ap slot_entry put_was) ∙ h)) put_waiting_map

      pub put_waiting_tables : IsTables eq hash newer older1 carried_to
      put_waiting_tables =
          IsTables-older eq hash newer older carried_to before p v m (Live x 1) quiet_put refl older1 (within_table older.slots (carried_to + p) (ap is_live was)) was now reached
          (λ y n e a. let z : x ≡ y = cc in subst (λ u. IsAbsent (eq u) newer.slots) z (absent_put newer.slots a))
          (counted_put _ _ m before.counted put_waiting_map)

module _ {T : Type 0} (eq : T → T → Bool) (x : T) (es : List (T × ℕ)) where
  pub count_present : (e : T × ℕ) → lookup_entry (eq x) es ≡ Some e → count_of eq x es ≡ e.1
  count_present e h = ap (λ o. unwrap_or o 0) (lookup-entry (eq x) es ∙ ap (option_map (λ (y : T × ℕ). y.1)) h)

  pub count_absent : lookup_entry (eq x) es ≡ None → count_of eq x es ≡ 0
  count_absent h = ap (λ o. unwrap_or o 0) (lookup-entry (eq x) es ∙ ap (option_map (λ (y : T × ℕ). y.1)) h)

  -- the entry's count is less, or its value goes
  pub fewer_swapped : IsEquivalence eq → (n : ℕ) (new : List (T × ℕ)) (e : T × ℕ) → IsCounted eq es → lookup_entry (eq x) es ≡ Some e → n < e.1 → Swaps es new e ((e.0, e.1 - n) ∷ []) → IsPermutation (with_fewer eq x n es) new
  fewer_swapped laws n new e h found more swap =
      let c = count_present e found in
      subst (λ l. IsPermutation l new) (sym (with_fewer-some eq x n es (omega (arith, c, more)) ∙ ap (λ m. with_count eq x (m - n) es) c))
      (set_swapped eq laws x (e.1 - n) es new e h found swap)

  pub gone_swapped : IsEquivalence eq → (n : ℕ) (new : List (T × ℕ)) (e : T × ℕ) → IsCounted eq es → lookup_entry (eq x) es ≡ Some e → e.1 ≤ n → Swaps es new e [] → IsPermutation (with_fewer eq x n es) new
  gone_swapped laws n new e h found few swap =
      let c = count_present e found in
      subst (λ l. IsPermutation l new) (sym (with_fewer-all eq x n es (omega (arith, c, few)))) (take_swapped eq laws x es new e h found swap)

  pub fewer_absent : (n : ℕ) → lookup_entry (eq x) es ≡ None → IsPermutation (with_fewer eq x n es) es
  fewer_absent n h =
      let c = count_absent h in
      subst (λ l. IsPermutation l es) (sym (with_fewer-all eq x n es (omega (arith, c)) ∙ without_absent (eq x) es h)) (IsPermutation-refl es)

  pub added_swapped : IsEquivalence eq → (n : ℕ) (new : List (T × ℕ)) (e : T × ℕ) → IsCounted eq es → lookup_entry (eq x) es ≡ Some e → Swaps es new e ((e.0, e.1 + n) ∷ []) → IsPermutation (with_count eq x (count_of eq x es + n) es) new
  added_swapped laws n new e h found swap =
      subst (λ m. IsPermutation (with_count eq x (m + n) es) new) (sym (count_present e found)) (set_swapped eq laws x (e.1 + n) es new e h found swap)

  pub added_absent : (n : ℕ) (new : List (T × ℕ)) → lookup_entry (eq x) es ≡ None → IsPermutation (with_instance eq x n es) new → IsPermutation (with_count eq x (count_of eq x es + n) es) new
  added_absent n new h same =
      let none = lookup-entry (eq x) es ∙ ap (option_map (λ (y : T × ℕ). y.1)) h in
      let c : count_of eq x es + n ≡ n = let z = count_absent h in omega (arith, z) in
      subst (λ l. IsPermutation l new) (ap (λ l. (x, n) ∷ l) (without_absent (eq x) es h) ∙ sym (with_count-absent eq x n es none) ∙ ap (λ m. with_count eq x m es) (sym c)) same

-- what is held at a spot is an entry
pub held_entry : {T : Type 0} (test : T → Bool) (t : Tables T) (spot : Spot) → HoldsIn test t spot → (e : T × ℕ) × (slot_entry (slot_in t spot) ≡ Some e)
held_entry test t (Newer p) h = let l = holder test (slot_at t.newer p) h.1 in ((l.0, l.1), ap slot_entry l.2)
held_entry test t (Waiting p) h = let l = holder test (slot_at t.waiting p) h.1 in ((l.0, l.1), ap slot_entry l.2)

-- the slot at the place that a spot names is the one at the spot
module _ {T : Type 0} {seen now : Tables T} {spot : Spot} {p : ℕ} (same : seen ≡ now) where
  pub at_newer : spot ≡ Newer p → slot_at seen.newer p ≡ slot_in now spot
  at_newer is = ap (λ (t : Tables T). slot_at t.newer p) same ∙ ap (slot_in now) (sym is)

  pub at_waiting : spot ≡ Waiting p → slot_at seen.waiting p ≡ slot_in now spot
  at_waiting is = ap (λ (t : Tables T). slot_at t.waiting p) same ∙ ap (slot_in now) (sym is)
