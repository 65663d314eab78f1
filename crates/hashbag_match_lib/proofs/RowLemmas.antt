-- The rows of two tallies, sorted by their articles.
use Rattle.std.proofs.Common.{◌≡◌, ℕ, ◌+◌, ◌<◌, ◌≤◌, ◌↔◌, Bool, IsTrue, List, [], ◌∷◌, ◌++◌, length, map, sum_by, Ordering, is_eq, is_lt, refl, sym, ◌∙◌, ap, subst, arith}
use Rattle.std.specs.Borrow.{Bor}
use Rattle.std.specs.Cmp.{IsEquivalence, IsTotalOrder, IsStrictWeakOrder}
use Rattle.std.specs.Ordering.{ordering_then}
use Rattle.std.specs.List.{Contains, IsDistinct}
use Rattle.std.specs.List.Sorted.{IsPermutation, IsSorted, IsStrictlySortedBy}
use Rattle.std.proofs.lemmas.List.{append-nil, map-id}
use Rattle.std.proofs.lemmas.List.Elements.{All-contains}
use Rattle.std.proofs.lemmas.List.Sorted.{Contains-permutation, IsPermutation-map, IsPermutation-sym, sum_by-IsPermutation}
use Rattle.std.proofs.lemmas.List.Sums.{sum_by-cons}
use Rattle.std.proofs.lemmas.Map.Keys.{IsDistinct-IsPermutation}
use Rattle.hashbag_core.specs.Bag.{Bag}
use Rattle.hashbag_core.specs.Equality.{bag_eq}
use Rattle.hashbag_core.specs.EqualityLaws.{same_counts-Decides}
use Rattle.hashbag_core.specs.Joins.{IsOuterJoin}
use Rattle.hashbag_core.specs.Occurrences.{count}
use Rattle.hashbag_core.proofs.ContainsLemmas.{All-from_Contains, Contains-map, Contains-map_back}
use Rattle.hashbag_core.proofs.MemberLemmas.{map-map}
use Rattle.hashbag_csv.specs.Quantities.{quantity, times}
use Rattle.hashbag_csv.proofs.SortedLemmas.{keys_rise}
use Rattle.hashbag_match_lib.specs.declared.matching.Row.{Row}
use Rattle.hashbag_match_lib.specs.Matching.{missing_of, surplus_of, lent_rows, AreRows}
use Rattle.hashbag_match_lib.specs.Tallies.{IsTallyOf, row_of_join}
use Rattle.hashbag_match_lib.proofs.ArticleLemmas.{articles, articles_once, articles_only, articles_all, named, row_of}
use Rattle.hashbag_match_lib.proofs.SumLemmas.{sum_of_counts}
use Rattle.hashbag_match_lib.proofs.TallyLemmas.{named_in_bags, named_in_lists}

module _ {T : Type 0} where
  abbrev pub lent_article : Row (Bor T) → T
  lent_article row = row.article.now

  abbrev pub lent_row : Row (Bor T) → Row T
  lent_row row = record { article = row.article.now; ordered = row.ordered; delivered = row.delivered }

  sum_lent : (number : Row T → ℕ) (rows : List (Row (Bor T))) → sum_by number (lent_rows rows) ≡ sum_by (λ row. number (lent_row row)) rows
  sum_lent number [] = refl
  sum_lent number (row ∷ rows) =
      let of_rows = sum_by-cons number (lent_row row) (lent_rows rows) in
      let lent = sum_by-cons (λ (r : Row (Bor T)). number (lent_row r)) row rows in
      let later = sum_lent number rows in
      omega (arith, of_rows, lent, later)

  -- a table of what is as many, whose articles are named by another list
  table_same : {eq : T → T → Bool} {cmp : T → T → Ordering} (names ordered delivered names' ordered' delivered' : T → ℕ) (rows : List (Row T))
      → ((v : T) → 0 < names v → 0 < names' v) → ((v : T) → 0 < names' v → 0 < names v) → ((v : T) → ordered v ≡ ordered' v) → ((v : T) → delivered v ≡ delivered' v)
      → AreRows eq cmp names ordered delivered rows → AreRows eq cmp names' ordered' delivered' rows
  table_same names ordered delivered names' ordered' delivered' rows more fewer same_ordered same_delivered h = record {
    rising = h.rising;
    counts = All-from_Contains (λ row. (row.ordered ≡ ordered' row.article) × (row.delivered ≡ delivered' row.article) × (0 < names' row.article)) rows (λ row there.
        let is = All-contains (λ row. (row.ordered ≡ ordered row.article) × (row.delivered ≡ delivered row.article) × (0 < names row.article)) rows row h.counts there in
        (is.0 ∙ same_ordered row.article, is.1 ∙ same_delivered row.article, more row.article is.2));
    each = λ v some. h.each v (fewer v some);
  }

module _ {T : Type 0} {eq : T → T → Bool} (laws : IsEquivalence eq) (X Y Z W : List T) (J K : List (T × ℕ × ℕ)) (j : IsOuterJoin eq X Y J) (k : IsOuterJoin eq Z W K) where
  abbrev all : List T
  all = articles laws X Y Z W J K j k

  abbrev some_named : T → ℕ
  some_named = named laws X Y Z W J K j k

  abbrev row_for : T → Row T
  row_for = row_of laws X Y Z W J K j k

  -- ---- each row has the counts, and each article that is named has a row

  abbrev IsRow : Row T → Type 0
  IsRow row = (row.ordered ≡ count eq row.article X) × (row.delivered ≡ count eq row.article Y) × (0 < some_named row.article)

  is_row : (row : Row T) → Contains (map row_for all) row → IsRow row
  is_row row there =
      let v = Contains-map_back row_for row all there in
      subst IsRow v.2 (refl, refl, All-contains (λ y. 0 < some_named y) all v.0 (articles_only laws X Y Z W J K j k) v.1)

  module _ (made rows : List (Row (Bor T))) (made_so : lent_rows made ≡ map row_for all) (q : IsPermutation made rows) where
    moved : IsPermutation (map row_for all) (lent_rows rows)
    moved = subst (λ (l : List (Row T)). IsPermutation l (lent_rows rows)) made_so (IsPermutation-map lent_row made rows q)

    articles_are : map (λ row. row.article) (lent_rows rows) ≡ map lent_article rows
    articles_are = map-map lent_row (λ (row : Row T). row.article) rows

    articles_moved : IsPermutation all (map lent_article rows)
    articles_moved =
        let lists : map (λ row. row.article) (map row_for all) ≡ all = map-map row_for (λ (row : Row T). row.article) all ∙ map-id all in
        subst (λ (l : List T). IsPermutation l (map lent_article rows)) lists
        (subst (λ (l : List T). IsPermutation (map (λ (row : Row T). row.article) (map row_for all)) l) articles_are (IsPermutation-map (λ (row : Row T). row.article) (map row_for all) (lent_rows rows) moved))

    pub table_of_bags : {cmp : T → T → Ordering} (total : IsTotalOrder cmp) → ((x y : T) → eq x y ≡ is_eq (cmp x y)) → (rest : Row (Bor T) → Row (Bor T) → Ordering)
        → IsStrictWeakOrder (λ x y. is_lt (ordering_then (cmp (lent_article x) (lent_article y)) (rest x y))) → IsSorted (λ x y. ordering_then (cmp (lent_article x) (lent_article y)) (rest x y)) rows
        → AreRows eq cmp some_named (λ v. count eq v X) (λ v. count eq v Y) (lent_rows rows)
    table_of_bags {cmp = cmp} total ties rest weak up =
        let distinct : IsDistinct eq (map lent_article rows) = IsDistinct-IsPermutation eq laws.symm all (map lent_article rows) articles_moved (articles_once laws X Y Z W J K j k) in
        record {
          rising = subst (λ (l : List T). IsStrictlySortedBy cmp l) (sym articles_are) (keys_rise laws total ties lent_article rest weak rows up distinct);
          counts = All-from_Contains IsRow (lent_rows rows) (λ row there. is_row row (Contains-permutation (lent_rows rows) (map row_for all) row (IsPermutation-sym _ _ moved) there));
          each = λ v some.
              let x = articles_all laws X Y Z W J K j k v some in
              (row_for x.0, Contains-permutation (map row_for all) (lent_rows rows) (row_for x.0) moved (Contains-map row_for x.0 all x.1), x.2);
        }

    -- ---- sums of rows are at most those of the bags

    few_missing : (V : List T) → sum_by missing_of (map row_for V) ≤ sum_by (λ v. count eq v X) V
    few_missing [] = omega arith
    few_missing (v ∷ V) =
        let rows = sum_by-cons missing_of (row_for v) (map row_for V) in
        let counts = sum_by-cons (λ v. count eq v X) v V in
        let later = few_missing V in
        omega arith

    few_surplus : (V : List T) → sum_by surplus_of (map row_for V) ≤ sum_by (λ v. count eq v Y) V
    few_surplus [] = omega arith
    few_surplus (v ∷ V) =
        let rows = sum_by-cons surplus_of (row_for v) (map row_for V) in
        let counts = sum_by-cons (λ v. count eq v Y) v V in
        let later = few_surplus V in
        omega arith

    pub missing_fits : sum_by missing_of rows ≤ length X
    missing_fits =
        let same : sum_by missing_of (lent_rows rows) ≡ sum_by missing_of (map row_for all) = sum_by-IsPermutation missing_of (map row_for all) (lent_rows rows) moved in
        let lent : sum_by missing_of (lent_rows rows) ≡ sum_by missing_of rows = sum_lent missing_of rows in
        let few = few_missing all in
        let fits = sum_of_counts laws all (articles_once laws X Y Z W J K j k) X in
        omega (arith, same, lent, few, fits)

    pub surplus_fits : sum_by surplus_of rows ≤ length Y
    surplus_fits =
        let same : sum_by surplus_of (lent_rows rows) ≡ sum_by surplus_of (map row_for all) = sum_by-IsPermutation surplus_of (map row_for all) (lent_rows rows) moved in
        let lent : sum_by surplus_of (lent_rows rows) ≡ sum_by surplus_of rows = sum_lent surplus_of rows in
        let few = few_surplus all in
        let fits = sum_of_counts laws all (articles_once laws X Y Z W J K j k) Y in
        omega (arith, same, lent, few, fits)

-- ---- walks over joins

abbrev pub lent_join : {T : Type 0} → Bor T × ℕ × ℕ → T × ℕ × ℕ
lent_join j = (j.0.now, j.1, j.2)

-- what a walk over a join gave is the join, once nothing is left of it
pub whole_join : {T : Type 0} (given : List (Bor T × ℕ × ℕ)) (left first join : List (T × ℕ × ℕ)) → map lent_join given ++ left ≡ first → left ≡ [] → first ≡ join → join ≡ map lent_join given
whole_join given left first join parts none is = sym (sym (append-nil (map lent_join given)) ∙ ap (λ l. map lent_join given ++ l) (sym none) ∙ parts ∙ is)

-- the rows of what a walk gave are those of the join
pub rows_so_far : {T : Type 0} (given : List (Bor T × ℕ × ℕ)) (rows : List (Row (Bor T))) → rows ≡ map row_of_join given → lent_rows rows ≡ map row_of_join (map lent_join given)
rows_so_far given rows is = ap (λ l. lent_rows l) is ∙ map-map row_of_join lent_row given ∙ sym (map-map lent_join row_of_join given)

-- the rows of two tallies are those of their lists
pub table_of_lists : {T S : Type 0} {eq : T → T → Bool} {cmp : T → T → Ordering} (L M : List (T × ℕ)) (a a_zeros b b_zeros : Bag T S) (rows : List (Row T))
    → IsTallyOf eq L a a_zeros → IsTallyOf eq M b b_zeros
    → AreRows eq cmp (λ v. count eq v a.items + count eq v b.items + (count eq v a_zeros.items + count eq v b_zeros.items)) (λ v. count eq v a.items) (λ v. count eq v b.items) rows
    → AreRows eq cmp (λ v. times eq v L + times eq v M) (λ v. quantity eq v L) (λ v. quantity eq v M) rows
table_of_lists {eq = eq} L M a a_zeros b b_zeros rows of_L of_M h =
    table_same (λ v. count eq v a.items + count eq v b.items + (count eq v a_zeros.items + count eq v b_zeros.items)) (λ v. count eq v a.items) (λ v. count eq v b.items)
    (λ v. times eq v L + times eq v M) (λ v. quantity eq v L) (λ v. quantity eq v M) rows
    (named_in_lists eq L M a a_zeros b b_zeros of_L of_M) (named_in_bags eq L M a a_zeros b b_zeros of_L of_M) of_L.counts of_M.counts h

-- bags are equal exactly where all their counts agree
pub equal_exactly : {T S : Type 0} {eq : T → T → Bool} (laws : IsEquivalence eq) (a b : Bag T S) (ordered delivered : T → ℕ) → ((v : T) → count eq v a.items ≡ ordered v) → ((v : T) → count eq v b.items ≡ delivered v)
    → IsTrue (bag_eq eq a b) ↔ ((v : T) → ordered v ≡ delivered v)
equal_exactly laws a b ordered delivered has_ordered has_delivered =
    let decides = same_counts-Decides laws a.items b.items in (
      λ equal v. sym (has_ordered v) ∙ decides.0 equal v ∙ has_delivered v,
      λ same. decides.1 (λ v. has_ordered v ∙ same v ∙ sym (has_delivered v)),
    )
