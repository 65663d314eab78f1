-- The first k of a list of pairs that comes one by one.
use Rattle.std.proofs.Common.{◌≡◌, ℕ, zero, suc, ◌<◌, ◌≤◌, Bool, true, false, List, [], ◌∷◌, ◌++◌, length, take, map, refl, sym, ◌∙◌, ap, subst, arith}
use Rattle.std.specs.Cmp.{IsStrictWeakOrder}
use Rattle.std.specs.List.{AllByRecursion}
use Rattle.std.specs.List.Sorted.{IsPermutation}
use Rattle.std.proofs.Permutation.{every_append, every_shuffled}
use Rattle.std.proofs.lemmas.List.{append-nil}
use Rattle.std.proofs.lemmas.List.Sorted.{IsPermutation-refl, IsPermutation-sym, IsPermutation-trans, IsPermutation-cons, IsPermutation-append, IsPermutation-append_left, IsPermutation-middle, IsPermutation-to_front, length_permutation}
use Rattle.hashbag_ops.specs.Order.{IsFirstOf}
use Rattle.hashbag_ops.proofs.Ranked.{Rises}

every_weaker : {X : Type 0} {P Q : X → Type 0} → ((x : X) → P x → Q x) → (xs : List X) → AllByRecursion P xs → AllByRecursion Q xs
every_weaker f [] h = tt
every_weaker f (x ∷ xs) h = (f x h.0, every_weaker f xs h.1)

pub every_map : {X Y : Type 0} (f : X → Y) (P : Y → Type 0) (xs : List X) → AllByRecursion (λ x. P (f x)) xs → AllByRecursion P (map f xs)
every_map f P [] h = tt
every_map f P (x ∷ xs) h = (h.0, every_map f P xs h.1)

-- one more that comes goes before all
more_first : {X : Type 0} (P Q : List X) (x : X) → IsPermutation P Q → IsPermutation (P ++ x ∷ []) (x ∷ Q)
more_first P Q x same = IsPermutation-trans _ _ _ (IsPermutation-to_front P x) (IsPermutation-cons x P Q same)

pub empty : {X : Type 0} (xs : List X) → length xs ≡ 0 → xs ≡ []
empty [] none = refl
empty (x ∷ xs) none = absurd (omega arith)

take_front : {X : Type 0} (k : ℕ) (xs ys : List X) → length xs ≤ k → (length xs < k → ys ≡ []) → take k (xs ++ ys) ≡ xs
take_front zero [] ys few full = refl
take_front (suc k) [] ys few full = ap (take (suc k)) (full (omega arith))
take_front zero (x ∷ xs) ys few full = absurd (omega arith)
take_front (suc k) (x ∷ xs) ys few full = ap (λ l. x ∷ l) (take_front k xs ys (omega arith) (λ less. full (omega arith)))

module _ {X : Type 0} {lt : X → X → Bool} where
  -- at the start
  pub first_none : (k : ℕ) → IsFirstOf lt k [] []
  first_none k = record { rest = []; parts = IsPermutation-refl []; at_most = omega arith; full = λ _. refl; first = tt }

  -- where there is room, one more joins them
  pub first_push : (k : ℕ) (P H H' : List X) (x : X) → IsFirstOf lt k P H → length H < k → IsPermutation (x ∷ H) H' → IsFirstOf lt k (P ++ x ∷ []) H'
  first_push k P H H' x h room same =
      let all : IsPermutation P H = subst (λ (l : List X). IsPermutation P l) (ap (λ (l : List X). H ++ l) (h.full room) ∙ append-nil H) h.parts in
      let long = length_permutation (x ∷ H) H' same in
      record {
        rest = [];
        parts = subst (λ (l : List X). IsPermutation (P ++ x ∷ []) l) (sym (append-nil H')) (IsPermutation-trans _ _ _ (more_first P H x all) same);
        at_most = omega (arith, long);
        full = λ _. refl;
        first = tt;
      }

  -- where there is none, one that comes before none of them is left out
  pub first_skip : (k : ℕ) (P H : List X) (x : X) → IsFirstOf lt k P H → k ≤ length H → AllByRecursion (λ h. lt x h ≡ false) H → IsFirstOf lt k (P ++ x ∷ []) H
  first_skip k P H x h full last = record {
    rest = x ∷ h.rest;
    parts = IsPermutation-trans _ _ _ (more_first P (H ++ h.rest) x h.parts) (IsPermutation-sym _ _ (IsPermutation-middle H x h.rest));
    at_most = h.at_most;
    full = λ less. absurd (omega arith);
    first = (last, h.first);
  }

module _ {X : Type 0} {lt : X → X → Bool} (weak : IsStrictWeakOrder lt) where
  -- what comes before none of the rest, by the last of them
  pub after_last : (x last : X) (H : List X) → lt x last ≡ false → AllByRecursion (λ h. lt last h ≡ false) H → AllByRecursion (λ h. lt x h ≡ false) H
  after_last x last H late = every_weaker (λ h. weak.chain x last h late) H

  -- one that comes before the last of them takes its place
  pub first_swap : (k : ℕ) (P H rest H' : List X) (x last : X) → IsFirstOf lt k P H → k ≤ length H → AllByRecursion (λ h. lt last h ≡ false) H → lt x last ≡ true
      → IsPermutation H (last ∷ rest) → IsPermutation (x ∷ rest) H' → IsFirstOf lt k (P ++ x ∷ []) H'
  first_swap k P H rest H' x last h full bound early out in_place =
      let apart = length_permutation H (last ∷ rest) out in
      let long = length_permutation (x ∷ rest) H' in_place in
      let late : lt last x ≡ false = weak.one_way x last early in
      let moved : IsPermutation (x ∷ (H ++ h.rest)) (x ∷ last ∷ (rest ++ h.rest)) = IsPermutation-cons x _ _ (IsPermutation-append_left h.rest H (last ∷ rest) out) in
      let back : IsPermutation (x ∷ last ∷ (rest ++ h.rest)) (H' ++ last ∷ h.rest) = IsPermutation-trans _ _ _ (IsPermutation-cons x _ _ (IsPermutation-sym _ _ (IsPermutation-middle rest last h.rest))) (IsPermutation-append_left (last ∷ h.rest) (x ∷ rest) H' in_place) in
      let kept : (r : X) → AllByRecursion (λ h. lt r h ≡ false) H → AllByRecursion (λ h. lt r h ≡ false) H' = λ r all.
      let at = every_shuffled (λ h. lt r h ≡ false) H (last ∷ rest) out all in
      every_shuffled (λ h. lt r h ≡ false) (x ∷ rest) H' in_place (weak.chain r last x at.0 late, at.1) in
      record {
        rest = last ∷ h.rest;
        parts = IsPermutation-trans _ _ _ (more_first P (H ++ h.rest) x h.parts) (IsPermutation-trans _ _ _ moved back);
        at_most = omega (arith, apart, long, h.at_most);
        full = λ less. absurd (omega (arith, apart, long));
        first = (kept last bound, every_weaker kept h.rest h.first);
      }

  placed_at : (x w : X) (ws : List X) → Rises lt (w ∷ ws) → (vs : List X) × IsPermutation (x ∷ ws) vs × Rises lt vs → (b : Bool) → lt x w ≡ b → (vs : List X) × IsPermutation (x ∷ w ∷ ws) vs × Rises lt vs
  placed_at x w ws up later true early =
      let late : lt w x ≡ false = weak.one_way x w early in
      (x ∷ w ∷ ws, IsPermutation-refl (x ∷ w ∷ ws), ((late, every_weaker (λ y h. weak.chain y w x h late) ws up.0), up))
  placed_at x w ws up later false late =
      let turned : IsPermutation (x ∷ w ∷ ws) (w ∷ x ∷ ws) = IsPermutation-middle (x ∷ []) w ws in
      (w ∷ later.0, IsPermutation-trans _ _ _ turned (IsPermutation-cons w (x ∷ ws) later.0 later.1), (every_shuffled (λ y. lt y w ≡ false) (x ∷ ws) later.0 later.1 (late, up.0), later.2))

  -- x in its place
  placed : (x : X) (ws : List X) → Rises lt ws → (vs : List X) × IsPermutation (x ∷ ws) vs × Rises lt vs
  placed x [] up = (x ∷ [], IsPermutation-refl (x ∷ []), (tt, tt))
  placed x (w ∷ ws) up = placed_at x w ws up (placed x ws up.1) (lt x w) refl

  -- each list has a rearrangement in ascending order
  in_order : (xs : List X) → (vs : List X) × IsPermutation xs vs × Rises lt vs
  in_order [] = ([], IsPermutation-refl [], tt)
  in_order (x ∷ xs) =
      let later = in_order xs in
      let at = placed x later.0 later.2 in
      (at.0, IsPermutation-trans _ _ _ (IsPermutation-cons x xs later.0 later.1) at.1, at.2)

  joined : (xs ys : List X) → Rises lt xs → Rises lt ys → AllByRecursion (λ y. AllByRecursion (λ x. lt y x ≡ false) xs) ys → Rises lt (xs ++ ys)
  joined [] ys up later after = later
  joined (x ∷ xs) ys up later after = (every_append (λ y. lt y x ≡ false) xs ys up.0 (every_weaker (λ y h. h.0) ys after), joined xs ys up.1 later (every_weaker (λ y h. h.1) ys after))

  -- sorted, they are the first k of the whole list sorted
  pub first_of_all : (k : ℕ) (P H S : List X) → IsFirstOf lt k P H → IsPermutation H S → Rises lt S → (W : List X) × IsPermutation P W × Rises lt W × (S ≡ take k W)
  first_of_all k P H S h same up =
      let last = in_order h.rest in
      let long = length_permutation H S same in
      let after : AllByRecursion (λ r. AllByRecursion (λ s. lt r s ≡ false) S) h.rest = every_weaker (λ r all. every_shuffled (λ s. lt r s ≡ false) H S same all) h.rest h.first in
      let none : length S < k → last.0 ≡ [] = λ less. empty last.0 (length_permutation h.rest last.0 last.1 ∙ ap length (h.full (omega (arith, long)))) in (
        S ++ last.0,
        IsPermutation-trans _ _ _ h.parts (IsPermutation-append H S h.rest last.0 same last.1),
        joined S last.0 up last.2 (every_shuffled (λ r. AllByRecursion (λ s. lt r s ≡ false) S) h.rest last.0 last.1 after),
        sym (take_front k S last.0 (omega (arith, long, h.at_most)) none),
      )
