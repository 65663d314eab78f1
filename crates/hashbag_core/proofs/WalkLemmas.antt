-- Walks: whatever the order of the list, from the entries of a map, and step by step.
use Rattle.std.proofs.Common.{◌≡◌, ℕ, zero, suc, ◌<◌, ◌≤◌, Bool, List, [], ◌∷◌, ◌++◌, ◌-◌, length, replicate, get_or, map, flat_map, All, Option, Some, None, unwrap_or, sum_by, refl, sym, ap, subst, ◌∙◌, arith}
use Rattle.std.specs.Borrow.{Bor}
use Rattle.std.specs.Cmp.{IsEquivalence}
use Rattle.std.specs.List.{IsDistinct, Contains}
use Rattle.std.specs.List.Sorted.{IsPermutation}
use Rattle.std.specs.Map.{keys_of, values_of}
use Rattle.std.proofs.lemmas.List.{map-id, length-replicate}
use Rattle.std.proofs.lemmas.List.Concat.{length-flat_map}
use Rattle.std.proofs.lemmas.List.Sums.{sum_by-cons}
use Rattle.std.proofs.lemmas.List.Elements.{All-nil, All-cons, All-head, All-tail, All-weaker, All-contains_itself, Contains-append_left, Contains-append_right, recursion_from_All}
use Rattle.std.proofs.lemmas.List.Sorted.{All-permutation, Contains-permutation, length_permutation, IsPermutation-sym, IsPermutation-trans}
use Rattle.std.proofs.lemmas.Map.Entries.{lookup_from_place}
use Rattle.std.proofs.lemmas.Option.{slice_get-get_or}
use Rattle.hashbag_table.specs.Tables.{Tables}
use Rattle.hashbag_table.specs.Entries.{IsCounted}
use Rattle.hashbag_table.proofs.EntryLemmas.{counted_rearranged}
use Rattle.hashbag_core.specs.Bag.{occurrences, IsTallied}
use Rattle.hashbag_core.specs.Iter.{occurrences_left, IsPending}
use Rattle.hashbag_core.specs.Occurrences.{count}
use Rattle.hashbag_core.specs.Walks.{IsEach, IsSetWalk, IsSetWalkOf, IsWalk, IsWalkOf}
use Rattle.hashbag_core.proofs.DistinctLemmas.{distinct_count-occurrences}
use Rattle.hashbag_core.proofs.MemberLemmas.{Contains-head, map_ext, map-map}
use Rattle.hashbag_core.proofs.OccurrenceLemmas.{count_rearranged, count_occurrences, all_occurrences, fits_from_tally, occurrences_rearranged}

-- the occurrences of entries are as many as their counts together
pub length_occurrences : {T : Type 0} (es : List (T × ℕ)) → length (occurrences es) ≡ sum_by (λ e. e.1) es
length_occurrences es = length-flat_map (λ e. replicate e.1 e.0) es ∙ λ i. sum_by (λ e. length-replicate e.1 e.0 i) es

-- and no fewer than the entries, where each has one
pub length_le_total : {T : Type 0} (es : List (T × ℕ)) → All (λ n. 0 < n) (values_of es) → length es ≤ sum_by (λ e. e.1) es
length_le_total {T} [] h = omega arith
length_le_total {T} (e ∷ es) h =
    let some : 0 < e.1 = All-head (λ n. 0 < n) e.1 (values_of es) h in
    let more = length_le_total es (All-tail (λ n. 0 < n) e.1 (values_of es) h) in
    let sum = sum_by-cons (λ (e : T × ℕ). e.1) e es in
    omega arith

module _ {T : Type 0} {eq : T → T → Bool} (laws : IsEquivalence eq) where
  -- ---- whatever the order of the list

  pub each_rearranged : (X Y ys : List T) → IsPermutation X Y → IsEach eq X ys → IsEach eq Y ys
  each_rearranged X Y ys p h = record {
    once = h.once;
    all = All-permutation (λ x. Contains ys x) X Y p h.all;
    only = All-weaker (λ y. Contains X y) (λ y. Contains Y y) (λ y. Contains-permutation X Y y p) ys h.only;
  }

  pub set_walk_rearranged : (X Y : List T) (W : List (T × ℕ)) → IsPermutation X Y → IsSetWalk eq X W → IsSetWalk eq Y W
  set_walk_rearranged X Y W p h = record {
    values = h.values;
    each = each_rearranged X Y h.values p h.each;
    counts = h.counts ∙ λ i. map (λ v. (v, count_rearranged laws v X Y p i)) h.values;
  }

  -- ---- from the entries of a map

  copies_have : (n : ℕ) (x : T) → 0 < n → Contains (replicate n x) x
  copies_have zero x h = absurd (omega arith)
  copies_have (suc n) x h = Contains-head x (replicate n x)

  only_occurrences : (es : List (T × ℕ)) → All (λ n. 0 < n) (values_of es) → All (λ y. Contains (occurrences es) y) (keys_of es)
  only_occurrences [] h = All-nil (λ y. Contains [] y)
  only_occurrences (e ∷ es) h =
      let copies = replicate e.1 e.0 in
      let rest = occurrences es in
      All-cons (λ y. Contains (copies ++ rest) y) e.0 (keys_of es)
      (Contains-append_left copies rest e.0 (copies_have e.1 e.0 (All-head (λ n. 0 < n) e.1 (values_of es) h)))
      (All-weaker (λ y. Contains rest y) (λ y. Contains (copies ++ rest) y) (λ y. Contains-append_right copies rest y) (keys_of es) (only_occurrences es (All-tail (λ n. 0 < n) e.1 (values_of es) h)))

  -- each entry has the count of its value among the occurrences
  pub counts_at_places : (es : List (T × ℕ)) → IsDistinct eq (keys_of es) → All (λ e. (e.0, count eq e.0 (occurrences es)) ≡ e) es
  counts_at_places es distinct = λ k d below.
      let e = get_or es k d in
      let found = lookup_from_place laws es k e.0 e.1 distinct (slice_get-get_or es k d below) in
      let same : count eq e.0 (occurrences es) ≡ e.1 = count_occurrences laws e.0 es distinct ∙ ap (λ (o : Option ℕ). unwrap_or o 0) found in
      λ i. (e.0, same i)

  counts_of : (es : List (T × ℕ)) → IsCounted eq es → es ≡ map (λ v. (v, count eq v (occurrences es))) (keys_of es)
  counts_of es counted = sym (map-map (λ (e : T × ℕ). e.0) (λ v. (v, count eq v (occurrences es))) es ∙ map_ext (λ e. (e.0, count eq e.0 (occurrences es))) (λ e. e) es (counts_at_places es counted.distinct) ∙ map-id es)

  -- the entries of a map of counts are a set walk of its occurrences
  pub set_walk_occurrences : (es : List (T × ℕ)) → IsCounted eq es → IsSetWalk eq (occurrences es) es
  set_walk_occurrences es counted = record {
    values = keys_of es;
    each = record {
      once = counted.distinct;
      all = all_occurrences laws (λ x. Contains (keys_of es) x) es (recursion_from_All (λ x. Contains (keys_of es) x) (keys_of es) (All-contains_itself (keys_of es)));
      only = only_occurrences es counted.positive;
    };
    counts = counts_of es counted;
  }

  -- the occurrences of a set walk, entry for entry, are a walk
  pub walk_from_set_walk : (X : List T) (W : List (T × ℕ)) → IsSetWalk eq X W → IsWalk eq X (occurrences W)
  walk_from_set_walk X W h = record {
    values = h.values;
    each = h.each;
    pieces = ap (λ (l : List (T × ℕ)). occurrences l) h.counts ∙ of_values h.values;
  }
    where
      of_values : (vs : List T) → occurrences (map (λ v. (v, count eq v X)) vs) ≡ flat_map (λ v. replicate (count eq v X) v) vs
      of_values [] = refl
      of_values (v ∷ vs) = ap (λ (l : List T). replicate (count eq v X) v ++ l) (of_values vs)

  -- ---- from the entries of a bag's table, in whatever order they come

  set_walk_of_table : (es W : List (T × ℕ)) (X : List T) → IsCounted eq es → IsPermutation es W → IsPermutation X (occurrences es) → IsSetWalk eq X W
  set_walk_of_table es W X counted p means =
      set_walk_rearranged (occurrences W) X W
      (IsPermutation-sym _ _ (IsPermutation-trans _ _ _ means (occurrences_rearranged es W p)))
      (set_walk_occurrences W (counted_rearranged laws es W p counted))

  pub set_walk_of_bag : {S : Type 0} {most : ℕ} (hasher : S) (tables : Tables T) (es W : List (T × ℕ)) (total : ℕ) → IsTallied eq es total most → IsPermutation es W → IsSetWalkOf eq (record { items = occurrences es; hasher = hasher; tables = tables; most = most }) W
  set_walk_of_bag hasher tables es W total tally p =
      let sum : sum_by (λ e. e.1) W ≡ length (occurrences es) = sym (length_occurrences W) ∙ length_permutation _ _ (occurrences_rearranged es W p) in
      let few = length_le_total W (counted_rearranged laws es W p tally.counted).positive in
      record {
        walk = λ X means. set_walk_of_table es W X tally.counted p means;
        means = IsPermutation-sym _ _ (occurrences_rearranged es W p);
        total = sum;
        distinct = length_permutation es W p ∙ sym (distinct_count-occurrences laws es tally.counted);
        at_most = omega arith;
        fits = fits_from_tally laws es total tally;
      }

  pub walk_of_bag : {S : Type 0} {most : ℕ} (hasher : S) (tables : Tables T) (es W : List (T × ℕ)) (total : ℕ) → IsTallied eq es total most → IsPermutation es W → IsWalkOf eq (record { items = occurrences es; hasher = hasher; tables = tables; most = most }) (occurrences W)
  walk_of_bag hasher tables es W total tally p =
      let set_walk = set_walk_of_bag hasher tables es W total tally p in
      record {
        walk = λ X means. walk_from_set_walk X W (set_walk.walk X means);
        means = set_walk.means;
        len = length_permutation _ _ (occurrences_rearranged es W p);
        fits = set_walk.fits;
      }

  -- an `Iter` that begins has all of the bag's occurrences to come
  pub pending_from_tally : {most : ℕ} → (es W : List (T × ℕ)) (total : ℕ) → IsTallied eq es total most → IsPermutation es W → IsPending None W total
  pending_from_tally es W total tally p = record {
    sum = tally.sum ∙ sym (length_permutation _ _ (occurrences_rearranged es W p));
    positive = (counted_rearranged laws es W p tally.counted).positive;
  }

-- ---- one step of an `Iter`

module _ {T : Type 0} where
  -- where the value that was being given has no occurrence left, the next entry is what comes
  pub steps_to_entry : (at : Option (Bor T × ℕ)) (es rest : List (T × ℕ)) (x : Bor T) (n left : ℕ) → occurrences_left at es ≡ occurrences es → es ≡ (x.now, n) ∷ rest → IsPending at es left
      → occurrences_left at es ≡ x.now ∷ occurrences_left (Some (x, n - 1)) rest
  steps_to_entry at es rest x n left none next pending =
      let some : 0 < n = All-head (λ k. 0 < k) n (values_of rest) (subst (λ (l : List (T × ℕ)). All (λ k. 0 < k) (values_of l)) next pending.positive) in
      none ∙ ap (λ (l : List (T × ℕ)). occurrences l) next ∙ ap (λ (l : List T). l ++ occurrences rest) (one_more n x.now some)
    where
      one_more : (n : ℕ) (v : T) → 0 < n → replicate n v ≡ v ∷ replicate (n - 1) v
      one_more zero v some = absurd (omega arith)
      one_more (suc n) v some = ap (λ k. v ∷ replicate k v) (omega arith)

  pub pending_at_entry : (at : Option (Bor T × ℕ)) (es rest : List (T × ℕ)) (x : Bor T) (n left : ℕ) → occurrences_left at es ≡ occurrences es → es ≡ (x.now, n) ∷ rest → IsPending at es left
      → IsPending (Some (x, n - 1)) rest (left - 1)
  pending_at_entry at es rest x n left none next pending =
      let long = ap (λ (l : List T). length l) (steps_to_entry at es rest x n left none next pending) in
      let sum = pending.sum in
      record {
        sum = omega arith;
        positive = All-tail (λ k. 0 < k) n (values_of rest) (subst (λ (l : List (T × ℕ)). All (λ k. 0 < k) (values_of l)) next pending.positive);
      }

  -- a value with no occurrence left
  pub none_left : (at : Option (Bor T × ℕ)) (es : List (T × ℕ)) (x : Bor T) (n : ℕ) → at ≡ Some (x, n) → n ≤ 0 → occurrences_left at es ≡ occurrences es
  none_left at es x n is few =
      let none : n ≡ 0 = omega arith in
      ap (λ (o : Option (Bor T × ℕ)). occurrences_left o es) is ∙ ap (λ k. replicate k x.now ++ occurrences es) none

  pub none_given : (at : Option (Bor T × ℕ)) (es : List (T × ℕ)) → at ≡ None → occurrences_left at es ≡ occurrences es
  none_given at es is = ap (λ (o : Option (Bor T × ℕ)). occurrences_left o es) is
