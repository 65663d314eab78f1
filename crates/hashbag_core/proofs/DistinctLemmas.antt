-- How many distinct values the occurrences of a map have.
use Rattle.std.proofs.Common.{◌≡◌, ℕ, zero, suc, ◌+◌, ◌<◌, ◌≤◌, ◌==◌, Bool, true, false, cond, List, [], ◌∷◌, ◌++◌, length, replicate, filter, Option, Some, unwrap_or, IsSome, refl, sym, ◌∙◌, ap, arith}
use Rattle.std.specs.Cmp.{IsEquivalence}
use Rattle.std.proofs.lemmas.Bool.Decides.{nat_tests}
use Rattle.std.specs.List.{IsDistinct}
use Rattle.std.specs.List.Sorted.{IsPermutation}
use Rattle.std.specs.Map.{keys_of, lookup_entry, remove_entry}
use Rattle.std.proofs.lemmas.List.Sums.{length-filter}
use Rattle.std.proofs.lemmas.Map.{lookup-none}
use Rattle.std.proofs.lemmas.Map.Entries.{none_past_head}
use Rattle.std.proofs.lemmas.Map.Keys.{IsDistinct-tail}
use Rattle.std.proofs.lemmas.List.Sorted.{length_permutation}
use Rattle.hashbag_table.specs.Entries.{with_count, with_instance, IsCounted}
use Rattle.hashbag_table.proofs.EntryLemmas.{without_absent}
use Rattle.hashbag_core.specs.Bag.{occurrences}
use Rattle.hashbag_core.specs.Occurrences.{count, distinct_count}
use Rattle.hashbag_core.proofs.OccurrenceLemmas.{absent_from_count, count_occurrences, present_from_count}

-- without one of its values a map is no longer, and shorter by one where the value was there
module _ {T : Type 0} (test : T → Bool) where
  fewer_step : (b : Bool) (e : T × ℕ) (es rest : List (T × ℕ)) → length rest ≤ length es → length (cond b es (e ∷ rest)) ≤ length (e ∷ es)
  fewer_step true e es rest h = omega arith
  fewer_step false e es rest h = omega arith

  length_without : (es : List (T × ℕ)) → length (remove_entry test es) ≤ length es
  length_without [] = omega arith
  length_without (e ∷ es) = fewer_step (test e.0) e es (remove_entry test es) (length_without es)

  one_fewer_step : (b : Bool) (e : T × ℕ) (es rest : List (T × ℕ)) → (IsSome (lookup_entry test es) → length rest + 1 ≡ length es) → IsSome (cond b (Some e) (lookup_entry test es)) → length (cond b es (e ∷ rest)) + 1 ≡ length (e ∷ es)
  one_fewer_step true e es rest later there = omega arith
  one_fewer_step false e es rest later there = let h = later there in omega arith

  length_without_one : (es : List (T × ℕ)) → IsSome (lookup_entry test es) → length (remove_entry test es) + 1 ≡ length es
  length_without_one [] there = absurd (cc)
  length_without_one (e ∷ es) there = one_fewer_step (test e.0) e es (remove_entry test es) (length_without_one es) there

module _ {T : Type 0} {eq : T → T → Bool} (laws : IsEquivalence eq) where
  first_counts : (k d : ℕ) → k ≡ 0 → (cond (k == 0) 1 0) + d ≡ suc d
  first_counts k d none = grind (arith, nat_tests)

  later_counts_not : (k d : ℕ) → 0 < k → (cond (k == 0) 1 0) + d ≡ d
  later_counts_not k d some = grind (arith, nat_tests)

  copy_counts : (x : T) (X : List T) → 0 < count eq x (x ∷ X)
  copy_counts x X =
      let found = length-filter (eq x) (x ∷ X) in
      let first : length (filter (eq x) (x ∷ X)) ≡ suc (length (filter (eq x) X)) = ap (λ (b : Bool). length (cond b (x ∷ filter (eq x) X) (filter (eq x) X))) (laws.refl x) in
      omega arith

  -- copies of a value that doesn't occur later on count once
  copies_count_once : (x : T) (n : ℕ) (X : List T) → 0 < n → count eq x X ≡ 0 → distinct_count eq (replicate n x ++ X) ≡ suc (distinct_count eq X)
  copies_count_once x zero X some none = absurd (omega arith)
  copies_count_once x (suc zero) X some none = first_counts (count eq x X) (distinct_count eq X) none
  copies_count_once x (suc (suc n)) X some none =
      later_counts_not (count eq x (replicate (suc n) x ++ X)) (distinct_count eq (replicate (suc n) x ++ X)) (copy_counts x (replicate n x ++ X))
      ∙ copies_count_once x (suc n) X (omega arith) none

  -- the value of an entry doesn't occur in the later ones
  pub absent_later : (e : T × ℕ) (es : List (T × ℕ)) → IsDistinct eq (keys_of (e ∷ es)) → count eq e.0 (occurrences es) ≡ 0
  absent_later e es distinct =
      count_occurrences laws e.0 es (IsDistinct-tail eq e.0 (keys_of es) distinct)
      ∙ ap (λ (o : Option ℕ). unwrap_or o 0) (lookup-none (eq e.0) es (none_past_head laws e.0 e es distinct (laws.refl e.0)))

  -- each entry is one distinct value
  pub distinct_count-occurrences : (es : List (T × ℕ)) → IsCounted eq es → distinct_count eq (occurrences es) ≡ length es
  distinct_count-occurrences [] counted = refl
  distinct_count-occurrences (e ∷ es) counted =
      let later : IsCounted eq es = record { distinct = IsDistinct-tail eq e.0 (keys_of es) counted.distinct; positive = λ k d at. counted.positive (suc k) d (omega arith) } in
      copies_count_once e.0 e.1 (occurrences es) (counted.positive 0 e.1 (omega arith)) (absent_later e es counted.distinct)
      ∙ ap suc (distinct_count-occurrences es later)

  -- a map that is one of m entries more has m values more
  distinct_more : (m : ℕ) (es made fs : List (T × ℕ)) → IsCounted eq es → IsCounted eq fs → IsPermutation made fs → length made ≡ length es + m
      → distinct_count eq (occurrences fs) ≡ distinct_count eq (occurrences es) + m
  distinct_more m es made fs counted after h more =
      distinct_count-occurrences fs after ∙ length_permutation made fs h ∙ more ∙ ap (λ (k : ℕ). k + m) (sym (distinct_count-occurrences es counted))

  -- without a value that it hasn't a map is as long as before
  length_without_absent : (v : T) (es : List (T × ℕ)) → IsCounted eq es → count eq v (occurrences es) ≡ 0 → length (remove_entry (eq v) es) ≡ length es
  length_without_absent v es counted none =
      ap (λ (l : List (T × ℕ)). length l) (without_absent (eq v) es (absent_from_count laws v es counted (sym (count_occurrences laws v es counted.distinct) ∙ none)))

  -- a map in which one value got a count has at most one value more, and none where that one was there
  pub distinct_added : (v : T) (n : ℕ) (es fs : List (T × ℕ)) → IsCounted eq es → IsCounted eq fs → IsPermutation (with_count eq v n es) fs
      → distinct_count eq (occurrences fs) ≤ distinct_count eq (occurrences es) + 1
  distinct_added v n es fs counted after h =
      let before = distinct_count-occurrences es counted in
      let now = distinct_count-occurrences fs after in
      let long = length_permutation (with_count eq v n es) fs h in
      let few = length_without (eq v) es in
      omega arith

  pub distinct_same : (v : T) (n : ℕ) (es fs : List (T × ℕ)) → IsCounted eq es → IsCounted eq fs → IsPermutation (with_count eq v n es) fs
      → 0 < count eq v (occurrences es) → distinct_count eq (occurrences fs) ≡ distinct_count eq (occurrences es)
  distinct_same v n es fs counted after h some =
      let same = count_occurrences laws v es counted.distinct in
      let fewer = length_without_one (eq v) es (present_from_count laws v es (omega arith)) in
      let stays = distinct_more 0 es (with_count eq v n es) fs counted after h (omega arith) in
      omega arith

  -- and one value more where that one was absent
  pub distinct_one_more : (v : T) (n : ℕ) (es fs : List (T × ℕ)) → IsCounted eq es → IsCounted eq fs → IsPermutation (with_count eq v n es) fs
      → count eq v (occurrences es) ≡ 0 → distinct_count eq (occurrences fs) ≡ distinct_count eq (occurrences es) + 1
  distinct_one_more v n es fs counted after h none =
      distinct_more 1 es (with_count eq v n es) fs counted after h (let same = length_without_absent v es counted none in omega arith)

  -- a map that a value which it hadn't was put into has one value more
  pub distinct_put : (v : T) (n : ℕ) (es fs : List (T × ℕ)) → IsCounted eq es → IsCounted eq fs → count eq v (occurrences es) ≡ 0 → IsPermutation (with_instance eq v n es) fs
      → distinct_count eq (occurrences fs) ≡ distinct_count eq (occurrences es) + 1
  distinct_put v n es fs counted after none h =
      distinct_more 1 es (with_instance eq v n es) fs counted after h (let same = length_without_absent v es counted none in omega arith)
