-- The first of the most common pairs: no value occurs more often than its value.
use Rattle.std.proofs.Common.{◌≡◌, ℕ, zero, suc, nat_lt, ◌≤◌, inl, inr, Bool, true, false, Option, Some, unwrap_or, List, [], ◌∷◌, length, map, take, get_or, slice_get, refl, sym, ap, subst, arith}
use borrow.Author.Tests.{ltb-true, ltb-false}
use denote.Ref.{Bor}
use Rattle.std.specs.Cmp.{IsEquivalence, nat_cmp_is}
use Rattle.std.specs.List.{Contains, AllByRecursion}
use Rattle.std.specs.List.Sorted.{IsStrictlySortedBy}
use Rattle.std.specs.Ordering.{nat_cmp, ordering_then}
use Rattle.std.specs.declared.cmp.Ordering.{Ordering}
use Rattle.std.specs.declared.cmp.Ordering.TheVariants.{Less, Greater}
use Rattle.std.proofs.lemmas.List.Elements.{All-contains, All-from_recursion}
use Rattle.std.proofs.lemmas.Map.Keys.{sorted_head}
use Rattle.std.proofs.lemmas.List.Sorted.{IsPermutation-refl}
use Rattle.hashbag_core.specs.Bag.{Bag}
use Rattle.hashbag_core.specs.EqualityLaws.{count_congr}
use Rattle.hashbag_core.specs.Occurrences.{count}
use Rattle.hashbag_core.specs.Walks.{IsSetWalk, IsSetWalkOf, seen}
use Rattle.hashbag_core.proofs.ContainsLemmas.{Contains-cases}
use Rattle.hashbag_core.proofs.ExcessLemmas.{an_instance}
use Rattle.hashbag_core.proofs.JoinLemmas.{in_walk}
use Rattle.hashbag_core.proofs.MemberLemmas.{Contains-head}
use Rattle.hashbag_ops.specs.Order.{rank, IsMostCommon}
use Rattle.hashbag_ops.proofs.Walked.{onto_walk}

at_member : {X : Type 0} (P : X → Type 0) (xs : List X) (x : X) → AllByRecursion P xs → Contains xs x → P x
at_member P xs x all there = All-contains P xs x (All-from_recursion P xs all) there

module _ {T : Type 0} {eq : T → T → Bool} (laws : IsEquivalence eq) (cmp : T → T → Ordering) where
  not_above : (x y : T × ℕ) → rank cmp x y ≡ Less → y.1 ≤ x.1
  not_above x y less = by_case (nat_lt x.1 y.1) refl
    where
      by_case : (b : Bool) → nat_lt x.1 y.1 ≡ b → y.1 ≤ x.1
      by_case true e =
          let above = ltb-true x.1 y.1 e in
          let greater : Greater ≡ nat_cmp y.1 x.1 = nat_cmp_is y.1 x.1 Greater above in
          let bad : Greater ≡ Less = subst (λ (o : Ordering). ordering_then o (cmp x.0 y.0) ≡ Less) (sym greater) less in
          absurd (cc)
      by_case false e = let below = ltb-false x.1 y.1 e in omega arith

  head_is_most : (X : List T) (x : T × ℕ) (rest : List (T × ℕ)) → IsSetWalk eq X (x ∷ rest) → IsStrictlySortedBy (rank cmp) (x ∷ rest) → (w : T) (k : ℕ) → count eq w X ≡ k → k ≤ x.1
  head_is_most X x rest walk sorted w zero none = omega arith
  head_is_most X x rest walk sorted w (suc k) some =
      let found = an_instance laws w X (omega arith) in
      let same = count_congr laws X w found.0 found.2 in
      elim (Contains-cases x (found.0, count eq found.0 X) rest (onto_walk X (x ∷ rest) walk found.0 found.1)) as (λ _. suc k ≤ x.1) [
        | inl is ↦ let number : x.1 ≡ count eq found.0 X = ap (λ (e : T × ℕ). e.1) is in omega arith
        | inr later ↦ let below = not_above x (found.0, count eq found.0 X) (at_member (λ y. rank cmp x y ≡ Less) rest _ (sorted_head (rank cmp) x rest sorted) later) in omega arith
      ]

  first_of : {S : Type 0} (bag : Bag T S) (q : T × ℕ) (more W : List (T × ℕ)) → IsSetWalkOf eq bag W → IsStrictlySortedBy (rank cmp) W → q ∷ more ≡ take 1 W → (w : T) → count eq w bag.items ≤ count eq q.0 bag.items
  first_of bag q more [] walk sorted is w = let long = ap (λ (l : List (T × ℕ)). length l) is in absurd (omega arith)
  first_of bag q more (x ∷ rest) walk sorted is w =
      let same : q ≡ x = ap (λ (l : List (T × ℕ)). get_or l 0 q) is in
      let all = walk.walk bag.items (IsPermutation-refl bag.items) in
      let most = head_is_most bag.items x rest all sorted w _ refl in
      let counted = (in_walk laws bag.items (x ∷ rest) all x (Contains-head x rest)).1 in
      let key = ap (λ (e : T × ℕ). count eq e.0 bag.items) same in
      omega arith

  -- no value occurs more often than that of the first pair of `most_common`
  pub first_is_most : {S : Type 0} (bag : Bag T S) (pairs : List (Bor T × ℕ)) (p : Bor T × ℕ) → Some p ≡ slice_get pairs 0 → IsMostCommon eq cmp 1 bag (map seen pairs) → (w : T) → count eq w bag.items ≤ count eq p.0.now bag.items
  first_is_most bag [] p is h w = absurd (cc)
  first_is_most bag (q ∷ pairs) p is h w =
      let most = first_of bag (seen q) (map seen pairs) h.0 h.1 h.2 h.3 w in
      let same : p ≡ q = ap (λ (o : Option (Bor T × ℕ)). unwrap_or o p) is in
      let key = ap (λ (e : Bor T × ℕ). count eq e.0.now bag.items) same in
      omega arith
