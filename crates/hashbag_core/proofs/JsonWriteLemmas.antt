-- Set walks in another order, and sorted ones.
use Rattle.std.proofs.Common.{◌≡◌, ℕ, suc, ◌<◌, ◌+◌, Bool, false, List, [], ◌∷◌, length, get_or, map, Ordering, Less, Equal, Greater, nat_cmp, is_lt, is_eq, All, refl, sym, ◌∙◌, ap, subst, arith}
use Rattle.std.specs.Borrow.{Bor}
use Rattle.std.specs.Cmp.{IsEquivalence, IsTotalOrder, IsStrictWeakOrder, then_total, on_total, nat_cmp_total}
use Rattle.std.specs.Ordering.{ordering_then, ordering_reverse}
use Rattle.std.specs.List.{Contains, IsDistinct, AllByRecursion}
use Rattle.std.specs.List.Sorted.{IsPermutation, IsSorted, IsStrictlySortedBy}
use Rattle.std.specs.Map.{keys_of}
use Rattle.std.proofs.lemmas.Bool.{false≢true}
use Rattle.std.proofs.lemmas.List.{map-id}
use Rattle.std.proofs.lemmas.List.Elements.{All-weaker}
use Rattle.std.proofs.lemmas.List.Sorted.{ranks_by, sorted_far, All-permutation, Contains-permutation, IsPermutation-map, IsPermutation-refl, IsPermutation-sym, IsPermutation-trans, length_permutation, sum_by-IsPermutation}
use Rattle.std.proofs.lemmas.Map.Keys.{IsDistinct-IsPermutation, IsDistinct-head, IsDistinct-tail}
use Rattle.hashbag_core.specs.Bag.{Bag}
use Rattle.hashbag_core.specs.Occurrences.{count}
use Rattle.hashbag_core.specs.Walks.{IsSetWalk, IsSetWalkOf, seen}
use Rattle.hashbag_core.proofs.ContainsLemmas.{All-from_Contains}
use Rattle.hashbag_core.proofs.JoinLemmas.{in_walk, keys_of_walk}
use Rattle.hashbag_core.proofs.MemberLemmas.{map-map, map_ext}
use Rattle.hashbag_core.proofs.OccurrenceLemmas.{occurrences_rearranged}

module _ {T : Type 0} {eq : T → T → Bool} (laws : IsEquivalence eq) where
  -- each entry of a set walk has the count of its value
  counts_in_walk : (X : List T) (W : List (T × ℕ)) → IsSetWalk eq X W → All (λ e. (e.0, count eq e.0 X) ≡ e) W
  counts_in_walk X W h = All-from_Contains (λ e. (e.0, count eq e.0 X) ≡ e) W (λ e there. let at = in_walk laws X W h e there in λ i. (e.0, sym at.1 i))

  -- a set walk in another order is one
  pub set_walk_resorted : (X : List T) (V W : List (T × ℕ)) → IsPermutation V W → IsSetWalk eq X V → IsSetWalk eq X W
  set_walk_resorted X V W p h =
      let keys : IsPermutation (keys_of V) (keys_of W) = IsPermutation-map (λ (e : T × ℕ). e.0) V W p in
      let values : IsPermutation h.values (keys_of W) = subst (λ (l : List T). IsPermutation l (keys_of W)) (keys_of_walk laws X V h) keys in
      record {
        values = keys_of W;
        each = record {
          once = IsDistinct-IsPermutation eq laws.symm h.values (keys_of W) values h.each.once;
          all = All-weaker (λ x. Contains h.values x) (λ x. Contains (keys_of W) x) (λ x. Contains-permutation h.values (keys_of W) x values) X h.each.all;
          only = All-permutation (λ y. Contains X y) h.values (keys_of W) values h.each.only;
        };
        counts = sym (map-map (λ (e : T × ℕ). e.0) (λ v. (v, count eq v X)) W ∙ map_ext (λ e. (e.0, count eq e.0 X)) (λ e. e) W (All-permutation (λ e. (e.0, count eq e.0 X) ≡ e) V W p (counts_in_walk X V h)) ∙ map-id W);
      }

  pub set_walk_reordered : {S : Type 0} (bag : Bag T S) (V W : List (T × ℕ)) → IsPermutation V W → IsSetWalkOf eq bag V → IsSetWalkOf eq bag W
  set_walk_reordered bag V W p h = record {
    walk = λ X means. set_walk_resorted X V W p (h.walk X means);
    means = IsPermutation-trans _ _ _ (IsPermutation-sym _ _ (occurrences_rearranged V W p)) h.means;
    total = sum_by-IsPermutation (λ (e : T × ℕ). e.1) V W p ∙ h.total;
    distinct = length_permutation V W p ∙ h.distinct;
    at_most = let same = length_permutation V W p in let few = h.at_most in omega arith;
    fits = h.fits;
  }

  pub once_in_walk : {S : Type 0} (bag : Bag T S) (W : List (T × ℕ)) → IsSetWalkOf eq bag W → IsDistinct eq (keys_of W)
  once_in_walk bag W h =
      let walk = h.walk bag.items (IsPermutation-refl bag.items) in
      subst (λ (l : List T). IsDistinct eq l) (sym (keys_of_walk laws bag.items W walk)) walk.each.once

module _ {T : Type 0} {eq : T → T → Bool} (laws : IsEquivalence eq) {cmp : T → T → Ordering} (total : IsTotalOrder cmp) (ties : (x y : T) → eq x y ≡ is_eq (cmp x y)) where
  abbrev by : Bor T × ℕ → Bor T × ℕ → Ordering
  by = λ x y. ordering_then (cmp x.0.now y.0.now) (nat_cmp x.1 y.1)

  abbrev below : Bor T × ℕ → Bor T × ℕ → Bool
  below = λ x y. is_lt (by x y)

  weak : IsStrictWeakOrder below
  weak = ranks_by (then_total (on_total (λ (p : Bor T × ℕ). p.0.now) total) (on_total (λ (p : Bor T × ℕ). p.1) nat_cmp_total)) (λ (p : Bor T × ℕ). p)

  less_at : (p q : Bor T × ℕ) (o : Ordering) → cmp q.0.now p.0.now ≡ o → is_lt (ordering_then o (nat_cmp q.1 p.1)) ≡ false → eq p.0.now q.0.now ≡ false → cmp p.0.now q.0.now ≡ Less
  less_at p q Less is up apart = absurd (false≢true (sym up))
  less_at p q Equal is up apart = absurd (false≢true (sym apart ∙ laws.symm p.0.now q.0.now ∙ ties q.0.now p.0.now ∙ ap is_eq is))
  less_at p q Greater is up apart = total.antisymm p.0.now q.0.now ∙ ap ordering_reverse is

  less : (p q : Bor T × ℕ) → below q p ≡ false → eq p.0.now q.0.now ≡ false → cmp p.0.now q.0.now ≡ Less
  less p q up apart = less_at p q (cmp q.0.now p.0.now) refl up apart

  all_above : (p : Bor T × ℕ) (ps : List (Bor T × ℕ)) → ((j : ℕ) (d : Bor T × ℕ) → j < length ps → below (get_or ps j d) p ≡ false)
      → AllByRecursion (λ y. eq p.0.now y ≡ false) (keys_of (map seen ps)) → AllByRecursion (λ y. cmp p.0.now y ≡ Less) (keys_of (map seen ps))
  all_above p [] up apart = tt
  all_above p (q ∷ ps) up apart = (less p q (up 0 q (omega arith)) apart.0, all_above p ps (λ j d h. up (suc j) d (omega arith)) apart.1)

  -- distinct values whose pairs were sorted are in ascending order
  pub rising_from_sorted : (ps : List (Bor T × ℕ)) → IsSorted by ps → IsDistinct eq (keys_of (map seen ps)) → IsStrictlySortedBy cmp (keys_of (map seen ps))
  unfolding IsStrictlySortedBy
  rising_from_sorted [] up distinct = tt
  rising_from_sorted (p ∷ ps) up distinct =
      let later : IsSorted by ps = λ k d low high. sorted_far below weak (p ∷ ps) up (suc k) (suc (k + 1)) d (omega arith) (omega arith) in (
        all_above p ps (λ j d h. sorted_far below weak (p ∷ ps) up 0 (suc j) d (omega arith) (omega arith)) (IsDistinct-head eq p.0.now (keys_of (map seen ps)) distinct),
        rising_from_sorted ps later (IsDistinct-tail eq p.0.now (keys_of (map seen ps)) distinct),
      )
