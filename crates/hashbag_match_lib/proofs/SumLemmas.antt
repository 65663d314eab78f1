-- The counts of distinct values add up to no more than there are occurrences.
use Rattle.std.proofs.Common.{◌≡◌, ℕ, ◌+◌, ◌≤◌, Bool, true, false, cond, List, [], ◌∷◌, length, sum_by, refl, sym, ◌∙◌, ap, arith}
use Rattle.std.specs.Cmp.{IsEquivalence}
use Rattle.std.specs.List.{IsDistinct, AllByRecursion}
use Rattle.std.proofs.lemmas.List.Sums.{sum_by-cons}
use Rattle.std.proofs.lemmas.Map.Keys.{IsDistinct-head, IsDistinct-tail}
use Rattle.hashbag_core.specs.Occurrences.{count}

module _ {T : Type 0} {eq : T → T → Bool} (laws : IsEquivalence eq) where
  abbrev one : Bool → ℕ
  one b = cond b 1 0

  -- one occurrence more adds to each count what it is of that value
  sum_split : (x : T) (X V : List T) → sum_by (λ v. count eq v (x ∷ X)) V ≡ sum_by (λ v. one (eq v x)) V + sum_by (λ v. count eq v X) V
  sum_split x X [] = refl
  sum_split x X (v ∷ V) =
      let whole = sum_by-cons (λ v. count eq v (x ∷ X)) v V in
      let ones = sum_by-cons (λ v. one (eq v x)) v V in
      let rest = sum_by-cons (λ v. count eq v X) v V in
      let here : count eq v (x ∷ X) ≡ one (eq v x) + count eq v X = sum_by-cons (λ y. one (eq v y)) x X in
      let later = sum_split x X V in
      omega arith

  none_equal : (x : T) (V : List T) → AllByRecursion (λ w. eq w x ≡ false) V → sum_by (λ w. one (eq w x)) V ≡ 0
  none_equal x [] h = refl
  none_equal x (v ∷ V) h =
      let sum = sum_by-cons (λ w. one (eq w x)) v V in
      let here : one (eq v x) ≡ 0 = ap one h.0 in
      let later = none_equal x V h.1 in
      omega (arith, sum, here, later)

  apart : (v x : T) (V : List T) → eq v x ≡ true → AllByRecursion (λ w. eq v w ≡ false) V → AllByRecursion (λ w. eq w x ≡ false) V
  apart v x [] same h = tt
  apart v x (w ∷ V) same h = (laws.symm w x ∙ sym (laws.congr v x w same) ∙ h.0, apart v x V same h.1)

  one_at : (v x : T) (V : List T) (b : Bool) → eq v x ≡ b → IsDistinct eq (v ∷ V) → sum_by (λ w. one (eq w x)) V ≤ 1 → sum_by (λ w. one (eq w x)) (v ∷ V) ≤ 1
  one_at v x V true is distinct later =
      let sum = sum_by-cons (λ w. one (eq w x)) v V in
      let here : one (eq v x) ≡ 1 = ap one is in
      let none = none_equal x V (apart v x V is (IsDistinct-head eq v V distinct)) in
      omega (arith, sum, here, none)
  one_at v x V false is distinct later =
      let sum = sum_by-cons (λ w. one (eq w x)) v V in
      let here : one (eq v x) ≡ 0 = ap one is in
      omega (arith, sum, here, later)

  -- at most one of distinct values is equal to x
  at_most_one : (x : T) (V : List T) → IsDistinct eq V → sum_by (λ w. one (eq w x)) V ≤ 1
  at_most_one x [] distinct = omega arith
  at_most_one x (v ∷ V) distinct = one_at v x V (eq v x) refl distinct (at_most_one x V (IsDistinct-tail eq v V distinct))

  none_of_none : (V : List T) → sum_by (λ v. count eq v []) V ≡ 0
  none_of_none [] = refl
  none_of_none (v ∷ V) =
      let sum = sum_by-cons (λ v. count eq v []) v V in
      let none : count eq v [] ≡ 0 = refl in
      let later = none_of_none V in
      omega (arith, sum, none, later)

  pub sum_of_counts : (V : List T) → IsDistinct eq V → (X : List T) → sum_by (λ v. count eq v X) V ≤ length X
  sum_of_counts V distinct [] = let none = none_of_none V in omega arith
  sum_of_counts V distinct (x ∷ X) =
      let split = sum_split x X V in
      let one_more = at_most_one x V distinct in
      let later = sum_of_counts V distinct X in
      omega (arith, split, one_more, later)
