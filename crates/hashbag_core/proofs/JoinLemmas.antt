-- Joins: whatever the order of the lists, and how they follow from set walks.
use Rattle.std.proofs.Common.{◌≡◌, ℕ, ◌<◌, ◌≤◌, ◌+◌, ◌-◌, Bool, List, ◌++◌, length, map, filter, All, ◌==◌, nat_lt, refl, sym, ap, subst, ◌∙◌, arith}
use borrow.Author.Tests.{eqb-true, eq-eqb, ltb-true, lt-ltb}
use Rattle.std.specs.Cmp.{IsEquivalence}
use Rattle.std.specs.List.{IsDistinct, Contains}
use Rattle.std.specs.List.Sorted.{IsPermutation}
use Rattle.std.specs.Map.{keys_of}
use Rattle.std.proofs.lemmas.List.{map-append, map-id, length-map}
use Rattle.std.proofs.lemmas.List.Elements.{All-append, All-contains, All-weaker}
use Rattle.std.proofs.lemmas.List.Sorted.{Contains-permutation, IsPermutation-sym, IsPermutation-trans}
use Rattle.std.proofs.lemmas.List.Sums.{length-filter, count_by-le-length}
use Rattle.std.proofs.lemmas.Map.Made.{IsDistinct-keys_filter}
use Rattle.hashbag_table.proofs.ListLemmas.{IsPermutation-filter, IsPermutation-same}
use Rattle.hashbag_core.specs.Occurrences.{count}
use Rattle.hashbag_core.specs.Walks.{IsEach, IsSetWalk}
use Rattle.hashbag_core.specs.Joins.{only_in_second, IsOuterJoin, IsDifference, IsNotIn}
use Rattle.hashbag_core.specs.JoinsLeft.{with_second, excesses, lacking, with_no_first}
use Rattle.hashbag_core.proofs.ContainsLemmas.{All-from_Contains, Contains-same, Contains-map, Contains-map_back, Contains-filter, Contains-filter_back}
use Rattle.hashbag_core.proofs.MemberLemmas.{map_ext, map-map}
use Rattle.hashbag_core.proofs.OccurrenceLemmas.{count_rearranged}
use Rattle.hashbag_core.proofs.WalkLemmas.{each_rearranged}

abbrev excess_of : {T : Type 0} → (T → T → Bool) → List T → T × ℕ → T × ℕ
excess_of eq Y e = (e.0, e.1 - count eq e.0 Y)

abbrev counted_in : {T : Type 0} → (T → T → Bool) → List T → List T → T → T × ℕ × ℕ
counted_in eq X Y v = (v, count eq v X, count eq v Y)

module _ {T : Type 0} {eq : T → T → Bool} (laws : IsEquivalence eq) where
  -- ---- whatever the order of the lists

  pub only_in_second_rearranged : (X X' Y Y' : List T) → IsPermutation X X' → IsPermutation Y Y' → IsPermutation (only_in_second eq X Y) (only_in_second eq X' Y')
  only_in_second_rearranged X X' Y Y' p q =
      IsPermutation-trans _ _ _ (IsPermutation-filter (λ y. count eq y X == 0) Y Y' q)
      (IsPermutation-same _ _ (λ i. filter (λ y. count_rearranged laws y X X' p i == 0) Y'))

  pub outer_rearranged : (X X' Y Y' : List T) (J : List (T × ℕ × ℕ)) → IsPermutation X X' → IsPermutation Y Y' → IsOuterJoin eq X Y J → IsOuterJoin eq X' Y' J
  outer_rearranged X X' Y Y' J p q h = record {
    first = h.first;
    second = h.second;
    of_first = each_rearranged laws X X' h.first p h.of_first;
    of_second = each_rearranged laws (only_in_second eq X Y) (only_in_second eq X' Y') h.second (only_in_second_rearranged X X' Y Y' p q) h.of_second;
    counts = h.counts ∙ λ i. map (λ v. (v, count_rearranged laws v X X' p i, count_rearranged laws v Y Y' q i)) (h.first ++ h.second);
  }

  pub difference_rearranged : (X X' Y Y' : List T) (E : List (T × ℕ)) → IsPermutation X X' → IsPermutation Y Y' → IsDifference eq X Y E → IsDifference eq X' Y' E
  difference_rearranged X X' Y Y' E p q h = record {
    once = h.once;
    exactly = λ v n.
        let same : count eq v X - count eq v Y ≡ count eq v X' - count eq v Y' = λ i. count_rearranged laws v X X' p i - count_rearranged laws v Y Y' q i in (
          λ c. let f = (h.exactly v n).0 c in (Contains-permutation X X' v p f.0, f.1 ∙ same, f.2),
          λ f. (h.exactly v n).1 (Contains-permutation X' X v (IsPermutation-sym X X' p) f.0, f.1 ∙ sym same, f.2),
        );
  }

  pub not_in_rearranged : (X X' Y Y' : List T) (M : List (T × ℕ)) → IsPermutation X X' → IsPermutation Y Y' → IsNotIn eq X Y M → IsNotIn eq X' Y' M
  not_in_rearranged X X' Y Y' M p q h = record {
    once = h.once;
    exactly = λ v n.
        let in_X = count_rearranged laws v X X' p in
        let in_Y = count_rearranged laws v Y Y' q in (
          λ c. let f = (h.exactly v n).0 c in (Contains-permutation X X' v p f.0, f.1 ∙ in_X, f.2, sym in_Y ∙ f.3),
          λ f. (h.exactly v n).1 (Contains-permutation X' X v (IsPermutation-sym X X' p) f.0, f.1 ∙ sym in_X, f.2, in_Y ∙ f.3),
        );
  }

  -- ---- joins from walks

  pub count_of_item : (v : T) (X : List T) → Contains X v → 0 < count eq v X
  count_of_item v X h =
      let there = Contains-filter (eq v) v X h (laws.refl v) in
      let below : there.0 < length (filter (eq v) X) = there.1 in
      let many = length-filter (eq v) X in
      omega arith

  pub keys_of_walk : (X : List T) (W : List (T × ℕ)) (h : IsSetWalk eq X W) → keys_of W ≡ h.values
  keys_of_walk X W h = ap (λ (l : List (T × ℕ)). keys_of l) h.counts ∙ map-map (λ v. (v, count eq v X)) (λ e. e.0) h.values ∙ map-id h.values

  -- a pair of a set walk has a value that occurs, with its count
  pub in_walk : (X : List T) (W : List (T × ℕ)) → IsSetWalk eq X W → (e : T × ℕ) → Contains W e → Contains X e.0 × (e.1 ≡ count eq e.0 X)
  in_walk X W h e c =
      let u = Contains-map_back (λ v. (v, count eq v X)) e h.values (Contains-same W _ e h.counts c) in
      let here = All-contains (λ y. Contains X y) h.values u.0 h.each.only u.1 in
      subst (λ (e : T × ℕ). Contains X e.0 × (e.1 ≡ count eq e.0 X)) u.2 (here, refl)

  onto_walk : (X : List T) (W : List (T × ℕ)) → IsSetWalk eq X W → (v : T) → Contains X v → Contains W (v, count eq v X)
  onto_walk X W h v c =
      Contains-same _ W (v, count eq v X) (sym h.counts) (Contains-map (λ v. (v, count eq v X)) v h.values (All-contains (λ x. Contains h.values x) X v h.each.all c))

  pub not_in_from_walk : (X Y : List T) (W : List (T × ℕ)) → IsSetWalk eq X W → IsNotIn eq X Y (lacking eq Y W)
  not_in_from_walk X Y W h = record {
    once = IsDistinct-keys_filter eq (λ e. count eq e.0 Y == 0) W (subst (λ (l : List T). IsDistinct eq l) (sym (keys_of_walk X W h)) h.each.once);
    exactly = λ v n. (
      λ c.
          let f = Contains-filter_back (λ e. count eq e.0 Y == 0) (v, n) W c in
          let w = in_walk X W h (v, n) f.0 in
          let some = count_of_item v X w.0 in
          let many : n ≡ count eq v X = w.1 in
          (w.0, many, omega arith, eqb-true _ _ f.1),
      λ f. Contains-filter (λ e. count eq e.0 Y == 0) (v, n) W (subst (λ (m : ℕ). Contains W (v, m)) (sym f.1) (onto_walk X W h v f.0)) (eq-eqb _ _ f.3),
    );
  }

  pub difference_from_walk : (X Y : List T) (W : List (T × ℕ)) → IsSetWalk eq X W → IsDifference eq X Y (excesses eq Y W)
  difference_from_walk X Y W h =
      let excess = excess_of eq Y in
      let keys : keys_of (map excess W) ≡ h.values = map-map excess (λ e. e.0) W ∙ keys_of_walk X W h in
      record {
        once = IsDistinct-keys_filter eq (λ e. nat_lt 0 e.1) (map excess W) (subst (λ (l : List T). IsDistinct eq l) (sym keys) h.each.once);
        exactly = λ v n. (
          λ c.
              let f = Contains-filter_back (λ e. nat_lt 0 e.1) (v, n) (map excess W) c in
              let u = Contains-map_back excess (v, n) W f.0 in
              let w = in_walk X W h u.0 u.1 in
              let at : Contains X (excess u.0).0 × ((excess u.0).1 ≡ count eq (excess u.0).0 X - count eq (excess u.0).0 Y) = (w.0, ap (λ (m : ℕ). m - count eq u.0.0 Y) w.1) in
              let here = subst (λ (e : T × ℕ). Contains X e.0 × (e.1 ≡ count eq e.0 X - count eq e.0 Y)) u.2 at in
              (here.0, here.1, ltb-true _ _ f.1),
          λ f. Contains-filter (λ e. nat_lt 0 e.1) (v, n) (map excess W) (subst (λ (m : ℕ). Contains (map excess W) (v, m)) (sym f.1) (Contains-map excess (v, count eq v X) W (onto_walk X W h v f.0))) (lt-ltb _ _ f.2),
        );
      }

  each_only_in_second : (X Y : List T) (M : List (T × ℕ)) → IsNotIn eq Y X M → IsEach eq (only_in_second eq X Y) (keys_of M)
  each_only_in_second X Y M h = record {
    once = h.once;
    all = All-from_Contains (λ x. Contains (keys_of M) x) (only_in_second eq X Y) (λ x c.
        let f = Contains-filter_back (λ y. count eq y X == 0) x Y c in
        Contains-map (λ (e : T × ℕ). e.0) (x, count eq x Y) M ((h.exactly x (count eq x Y)).1 (f.0, refl, count_of_item x Y f.0, eqb-true _ _ f.1)));
    only = All-from_Contains (λ y. Contains (only_in_second eq X Y) y) (keys_of M) (λ y c.
        let u = Contains-map_back (λ (e : T × ℕ). e.0) y M c in
        let f = (h.exactly u.0.0 u.0.1).0 u.1 in
        subst (λ (x : T). Contains (only_in_second eq X Y) x) u.2 (Contains-filter (λ y. count eq y X == 0) u.0.0 Y f.0 (eq-eqb _ _ f.3)));
  }

  pub outer_from_walks : (X Y : List T) (W M : List (T × ℕ)) → IsSetWalk eq X W → IsNotIn eq Y X M → IsOuterJoin eq X Y (with_second eq Y W ++ with_no_first M)
  outer_from_walks X Y W M walk rest =
      let both = counted_in eq X Y in
      let front : with_second eq Y W ≡ map both walk.values = ap (with_second eq Y) walk.counts ∙ map-map (λ v. (v, count eq v X)) (λ e. (e.0, e.1, count eq e.0 Y)) walk.values in
      let places : All (λ e. (e.0, 0, e.1) ≡ both e.0) M = All-from_Contains (λ e. (e.0, 0, e.1) ≡ both e.0) M (λ e c. let f = (rest.exactly e.0 e.1).0 c in λ i. (e.0, sym f.3 i, f.1 i)) in
      let back : with_no_first M ≡ map both (keys_of M) = map_ext (λ e. (e.0, 0, e.1)) (λ e. both e.0) M places ∙ sym (map-map (λ (e : T × ℕ). e.0) both M) in
      record {
        first = walk.values;
        second = keys_of M;
        of_first = walk.each;
        of_second = each_only_in_second X Y M rest;
        counts = (λ i. front i ++ back i) ∙ sym (map-append both walk.values (keys_of M));
      }

  -- no value has the count 0 in both lists
  pub outer_none_zero : (X Y : List T) (J : List (T × ℕ × ℕ)) → IsOuterJoin eq X Y J → All (λ j. 0 < j.1 + j.2) J
  outer_none_zero X Y J h =
      let both = counted_in eq X Y in
      let in_first = All-weaker (λ v. Contains X v) (λ v. 0 < count eq v X + count eq v Y) (λ v c. let some = count_of_item v X c in omega arith) h.first h.of_first.only in
      let in_second = All-weaker (λ v. Contains (only_in_second eq X Y) v) (λ v. 0 < count eq v X + count eq v Y) (λ v c. let some = count_of_item v Y (Contains-filter_back (λ y. count eq y X == 0) v Y c).0 in omega arith) h.second h.of_second.only in
      let all = All-append (λ v. 0 < count eq v X + count eq v Y) h.first h.second in_first in_second in
      All-from_Contains (λ j. 0 < j.1 + j.2) J (λ j c.
      let u = Contains-map_back both j (h.first ++ h.second) (Contains-same J _ j h.counts c) in
      subst (λ (j : T × ℕ × ℕ). 0 < j.1 + j.2) u.2 (All-contains (λ v. 0 < count eq v X + count eq v Y) (h.first ++ h.second) u.0 all u.1))

-- ---- how much a join gives at most

module _ {T : Type 0} (eq : T → T → Bool) (Y : List T) where
  pub length_excesses : (es : List (T × ℕ)) → length (excesses eq Y es) ≤ length es
  length_excesses es =
      let excess = excess_of eq Y in
      let kept = length-filter (λ (e : T × ℕ). nat_lt 0 e.1) (map excess es) in
      let few = count_by-le-length (λ (e : T × ℕ). nat_lt 0 e.1) (map excess es) in
      let long = length-map es excess in
      omega arith

  pub length_lacking : (es : List (T × ℕ)) → length (lacking eq Y es) ≤ length es
  length_lacking es =
      let kept = length-filter (λ (e : T × ℕ). count eq e.0 Y == 0) es in
      let few = count_by-le-length (λ (e : T × ℕ). count eq e.0 Y == 0) es in
      omega arith
