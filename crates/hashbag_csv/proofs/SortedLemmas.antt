-- Items with keys of their own, sorted so that keys come first.
use Rattle.std.proofs.Common.{◌≡◌, ℕ, suc, ◌<◌, ◌+◌, Bool, false, List, [], ◌∷◌, length, get_or, map, Ordering, Less, Equal, Greater, is_lt, is_eq, refl, sym, ◌∙◌, ap, arith}
use Rattle.std.specs.Cmp.{IsEquivalence, IsTotalOrder, IsStrictWeakOrder}
use Rattle.std.specs.Ordering.{ordering_then, ordering_reverse}
use Rattle.std.specs.List.{IsDistinct, AllByRecursion}
use Rattle.std.specs.List.Sorted.{IsSorted, IsStrictlySortedBy}
use Rattle.std.proofs.lemmas.Bool.{false≢true}
use Rattle.std.proofs.lemmas.List.Sorted.{sorted_far}
use Rattle.std.proofs.lemmas.Map.Keys.{IsDistinct-head, IsDistinct-tail}

module _ {T A : Type 0} {eq : T → T → Bool} (laws : IsEquivalence eq) {cmp : T → T → Ordering} (total : IsTotalOrder cmp) (ties : (x y : T) → eq x y ≡ is_eq (cmp x y)) (key : A → T) (rest : A → A → Ordering) where
  abbrev pub by : A → A → Ordering
  by = λ x y. ordering_then (cmp (key x) (key y)) (rest x y)

  abbrev pub below : A → A → Bool
  below = λ x y. is_lt (by x y)

  less_at : (p q : A) (o : Ordering) → cmp (key q) (key p) ≡ o → is_lt (ordering_then o (rest q p)) ≡ false → eq (key p) (key q) ≡ false → cmp (key p) (key q) ≡ Less
  less_at p q Less is up apart = absurd (false≢true (sym up))
  less_at p q Equal is up apart = absurd (false≢true (sym apart ∙ laws.symm (key p) (key q) ∙ ties (key q) (key p) ∙ ap is_eq is))
  less_at p q Greater is up apart = total.antisymm (key p) (key q) ∙ ap ordering_reverse is

  all_above : (p : A) (ps : List A) → ((j : ℕ) (d : A) → j < length ps → below (get_or ps j d) p ≡ false)
      → AllByRecursion (λ y. eq (key p) y ≡ false) (map key ps) → AllByRecursion (λ y. cmp (key p) y ≡ Less) (map key ps)
  all_above p [] up apart = tt
  all_above p (q ∷ ps) up apart = (less_at p q (cmp (key q) (key p)) refl (up 0 q (omega arith)) apart.0, all_above p ps (λ j d h. up (suc j) d (omega arith)) apart.1)

  -- distinct keys are in ascending order once their items are sorted
  pub keys_rise : IsStrictWeakOrder below → (ps : List A) → IsSorted by ps → IsDistinct eq (map key ps) → IsStrictlySortedBy cmp (map key ps)
  unfolding IsStrictlySortedBy
  keys_rise weak [] up distinct = tt
  keys_rise weak (p ∷ ps) up distinct =
      let later : IsSorted by ps = λ k d low high. sorted_far below weak (p ∷ ps) up (suc k) (suc (k + 1)) d (omega arith) (omega arith) in (
        all_above p ps (λ j d h. sorted_far below weak (p ∷ ps) up 0 (suc j) d (omega arith) (omega arith)) (IsDistinct-head eq (key p) (map key ps) distinct),
        keys_rise weak ps later (IsDistinct-tail eq (key p) (map key ps) distinct),
      )
