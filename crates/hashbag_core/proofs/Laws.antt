-- Laws of bags, for every equality of values that is an equivalence.
use Rattle.std.proofs.Common.{◌≡◌, ℕ, ◌+◌, Bool, true, false, cond, List, [], ◌∷◌, length, replicate, find, Some, unwrap_or, sum_by, refl, sym, ◌∙◌, ap, arith}
use Rattle.std.specs.Cmp.{IsEquivalence}
use Rattle.std.specs.List.Sorted.{IsPermutation}
use Rattle.std.proofs.lemmas.List.{length-replicate}
use Rattle.std.proofs.lemmas.List.Sums.{length-filter, sum_by-cons}
use Rattle.std.proofs.lemmas.List.Sorted.{sum_by-IsPermutation}
use Rattle.hashbag_table.proofs.ListLemmas.{filter-replicate}
use Rattle.hashbag_core.specs.EqualityLaws.{count_append}
use Rattle.hashbag_core.specs.Extends.{add_all}
use Rattle.hashbag_core.specs.Occurrences.{count, instance_or_itself, add, SameCounts}

copies : {T : Type 0} (b : Bool) (n : ℕ) (x : T) → length (cond b (replicate n x) []) ≡ cond b n 0
copies true n x = length-replicate n x
copies false n x = refl

module _ {T : Type 0} {eq : T → T → Bool} (laws : IsEquivalence eq) where
  alike_step : (x y : T) (X : List T) (b : Bool) → eq x y ≡ b → eq x (unwrap_or (find (eq x) X) x) ≡ true → eq x (unwrap_or (cond b (Some y) (find (eq x) X)) x) ≡ true
  alike_step x y X true same h = same
  alike_step x y X false other h = h

  -- of `entry(v).value()`: the instance of a value equals it
  pub instance_equals : (x : T) (X : List T) → eq x (instance_or_itself eq x X) ≡ true
  instance_equals x [] = laws.refl x
  instance_equals x (y ∷ X) = alike_step x y X (eq x y) refl (instance_equals x X)

  -- n more of x are n more of each value equal to it
  pub count_added : (v x : T) (n : ℕ) (X : List T) → count eq v (add eq x n X) ≡ count eq v X + cond (eq v x) n 0
  count_added v x n X =
      let i = instance_or_itself eq x X in
      let same : eq v i ≡ eq v x = laws.symm v i ∙ sym (laws.congr x i v (instance_equals x X)) ∙ laws.symm x v in
      let new : count eq v (replicate n i) ≡ cond (eq v x) n 0 = sym (length-filter (eq v) (replicate n i)) ∙ ap (λ (l : List T). length l) (filter-replicate (eq v) n i) ∙ copies (eq v i) n i ∙ ap (λ (b : Bool). cond b n 0) same in
      count_append laws v X (replicate n i) ∙ ap (λ (k : ℕ). count eq v X + k) new

  -- after several insertions a value's count is what it was with the numbers beside it
  pub count_all_added : (v : T) (X : List T) (pairs : List (T × ℕ)) → count eq v (add_all eq X pairs) ≡ count eq v X + sum_by (λ p. cond (eq v p.0) p.1 0) pairs
  count_all_added v X [] = nothing_more _
    where
      nothing_more : (n : ℕ) → n ≡ n + 0
      nothing_more n = omega arith
  count_all_added v X (p ∷ pairs) =
      let later = count_all_added v (add eq p.0 p.1 X) pairs in
      let first = count_added v p.0 p.1 X in
      let sum = sum_by-cons (λ p. cond (eq v p.0) p.1 0) p pairs in
      omega arith

  -- the order of insertions doesn't matter to the counts, and so to the equality of bags
  pub insertions_in_any_order : (X : List T) (pairs others : List (T × ℕ)) → IsPermutation pairs others → SameCounts eq (add_all eq X pairs) (add_all eq X others)
  insertions_in_any_order X pairs others h v =
      count_all_added v X pairs ∙ ap (λ (k : ℕ). count eq v X + k) (sym (sum_by-IsPermutation (λ p. cond (eq v p.0) p.1 0) pairs others h)) ∙ sym (count_all_added v X others)
