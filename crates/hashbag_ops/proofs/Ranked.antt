-- Pairs in descending order of counts, and with equal counts in ascending order of values.
use Rattle.std.proofs.Common.{◌≡◌, ℕ, suc, ◌<◌, ◌+◌, Bool, false, List, [], ◌∷◌, length, get_or, map, Ordering, Less, Equal, Greater, is_lt, is_eq, nat_cmp, refl, sym, ◌∙◌, ap, arith}
use denote.Ref.{Bor}
use denote.Param.Members.{Mut}
use Rattle.std.specs.Cmp.{IsEquivalence, IsTotalOrder, IsStrictWeakOrder, then_total, on_total, back_total, nat_cmp_total}
use Rattle.std.specs.Fn.{Called, ComparesAs}
use Rattle.std.specs.Ordering.{ordering_then, ordering_reverse}
use Rattle.std.specs.List.{IsDistinct, AllByRecursion}
use Rattle.std.specs.List.Sorted.{IsSortedBy, IsStrictlySortedBy}
use Rattle.std.specs.Map.{keys_of}
use Rattle.std.proofs.lemmas.Bool.{false≢true}
use Rattle.std.proofs.lemmas.Fn.{always_returns_same}
use Rattle.std.proofs.lemmas.List.Sorted.{ranks_by, sorted_far}
use Rattle.std.proofs.lemmas.Map.Keys.{IsDistinct-head, IsDistinct-tail}
use Rattle.hashbag_ops.specs.Order.{rank, comes_first}
use Rattle.hashbag_core.specs.Walks.{seen}

-- none comes before one that stands before it
abbrev pub Rises : {X : Type 0} → (X → X → Bool) → List X → Type 0
Rises lt [] = Unit {0}
Rises lt (x ∷ xs) = AllByRecursion (λ y. lt y x ≡ false) xs × Rises lt xs

module _ {X Y : Type 0} (f : X → Y) (lt : Y → Y → Bool) (weak : IsStrictWeakOrder (λ x y. lt (f x) (f y))) where
  none_before : (p : X) (ps : List X) → ((j : ℕ) (d : X) → j < length ps → lt (f (get_or ps j d)) (f p) ≡ false) → AllByRecursion (λ y. lt y (f p) ≡ false) (map f ps)
  none_before p [] up = tt
  none_before p (q ∷ ps) up = (up 0 q (omega arith), none_before p ps (λ j d h. up (suc j) d (omega arith)))

  -- what a sort left, by what it was sorted by
  pub rises_from_sorted : (ps : List X) → IsSortedBy (λ x y. lt (f x) (f y)) ps → Rises lt (map f ps)
  rises_from_sorted [] up = tt
  rises_from_sorted (p ∷ ps) up =
      let later : IsSortedBy (λ x y. lt (f x) (f y)) ps = λ k d low high. sorted_far (λ x y. lt (f x) (f y)) weak (p ∷ ps) up (suc k) (suc (k + 1)) d (omega arith) (omega arith) in
      (none_before p ps (λ j d h. sorted_far (λ x y. lt (f x) (f y)) weak (p ∷ ps) up 0 (suc j) d (omega arith) (omega arith)), rises_from_sorted ps later)

then_equal : (a b : Ordering) → ordering_then a b ≡ Equal → b ≡ Equal
then_equal Less b is = absurd (false≢true (sym (ap is_lt is)))
then_equal Equal b is = is
then_equal Greater b is = absurd (false≢true (ap is_eq is))

module _ {T : Type 0} {cmp : T → T → Ordering} (total : IsTotalOrder cmp) where
  rank_total : IsTotalOrder (rank cmp)
  rank_total = then_total (back_total (on_total (λ (p : T × ℕ). p.1) nat_cmp_total)) (on_total (λ (p : T × ℕ). p.0) total)

  -- the order, and the same of what shows such pairs
  pub rank_weak : {X : Type 0} (f : X → T × ℕ) → IsStrictWeakOrder (λ x y. comes_first cmp (f x) (f y))
  rank_weak f = ranks_by rank_total f

module _ {T : Type 0} {eq : T → T → Bool} (laws : IsEquivalence eq) {cmp : T → T → Ordering} (total : IsTotalOrder cmp) (ties : (x y : T) → eq x y ≡ is_eq (cmp x y)) where
  first_at : (p q : T × ℕ) (o : Ordering) → rank cmp q p ≡ o → is_lt o ≡ false → eq p.0 q.0 ≡ false → rank cmp p q ≡ Less
  first_at p q Less is up apart = absurd (false≢true (sym up))
  first_at p q Equal is up apart = absurd (false≢true (sym apart ∙ laws.symm p.0 q.0 ∙ ties q.0 p.0 ∙ ap is_eq (then_equal (nat_cmp p.1 q.1) (cmp q.0 p.0) is)))
  first_at p q Greater is up apart = (rank_total total).antisymm p q ∙ ap ordering_reverse is

  all_after : (p : T × ℕ) (ps : List (T × ℕ)) → AllByRecursion (λ y. comes_first cmp y p ≡ false) ps → AllByRecursion (λ y. eq p.0 y ≡ false) (keys_of ps) → AllByRecursion (λ y. rank cmp p y ≡ Less) ps
  all_after p [] up apart = tt
  all_after p (q ∷ ps) up apart = (first_at p q (rank cmp q p) refl up.0 apart.0, all_after p ps up.1 apart.1)

  -- of pairs of distinct values in ascending order, each is before those after it
  pub ranked_from_rising : (ps : List (T × ℕ)) → Rises (comes_first cmp) ps → IsDistinct eq (keys_of ps) → IsStrictlySortedBy (rank cmp) ps
  unfolding IsStrictlySortedBy
  ranked_from_rising [] up distinct = tt
  ranked_from_rising (p ∷ ps) up distinct = (all_after p ps up.0 (IsDistinct-head eq p.0 (keys_of ps) distinct), ranked_from_rising ps up.1 (IsDistinct-tail eq p.0 (keys_of ps) distinct))

  -- pairs of distinct values that a closure sorted by `rank` are strictly sorted by it
  pub ranked_from_sort_by : {F : Type 0} {g : Mut F (Bor (Bor T × ℕ) × (Bor (Bor T × ℕ) × Unit {0})) Ordering} {f : F} (ps : List (Bor T × ℕ))
      → ((lt : Bor T × ℕ → Bor T × ℕ → Bool) → IsStrictWeakOrder lt → ComparesAs g lt f → IsSortedBy lt ps)
      → ((a : Bor (Bor T × ℕ) × (Bor (Bor T × ℕ) × Unit {0})) (r : Ordering) (f' : F) → Called g f a r f' → (r ≡ rank cmp (seen a.0.now) (seen a.1.0.now)) × (f' ≡ f))
      → IsDistinct eq (keys_of (map seen ps)) → IsStrictlySortedBy (rank cmp) (map seen ps)
  ranked_from_sort_by {g = g} {f = f} ps up h distinct =
      let before : Bor T × ℕ → Bor T × ℕ → Bool = λ x y. comes_first cmp (seen x) (seen y) in
      let weak : IsStrictWeakOrder before = rank_weak total (λ (p : Bor T × ℕ). seen p) in
      let sorted : IsSortedBy before ps = up before weak (always_returns_same g (λ a r. is_lt r ≡ before a.0.now a.1.0.now) f (λ a r f' k. (ap is_lt (h a r f' k).0, (h a r f' k).1))) in
      ranked_from_rising (map seen ps) (rises_from_sorted (λ (p : Bor T × ℕ). seen p) (comes_first cmp) weak ps sorted) distinct
