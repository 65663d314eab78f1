-- The articles of an outer join, and those that only lines with the number 0 name: each once, and no others.
use Rattle.std.proofs.Common.{◌≡◌, ℕ, ◌+◌, ◌<◌, ◌==◌, Bool, true, false, cond, List, [], ◌∷◌, ◌++◌, map, filter, All, inl, inr, refl, sym, ◌∙◌, ap, arith}
use borrow.Author.Tests.{eqb-true, eq-eqb}
use Rattle.std.specs.Cmp.{IsEquivalence}
use Rattle.std.specs.List.{IsDistinct, AllByRecursion, Contains}
use Rattle.std.proofs.lemmas.Bool.{and_from, and_parts, cases_lt}
use Rattle.std.proofs.lemmas.List.Elements.{All-append, All-contains, All-weaker, Contains-append_left, Contains-append_right}
use Rattle.std.proofs.lemmas.Map.Keys.{IsDistinct-cons, IsDistinct-head, IsDistinct-tail}
use Rattle.hashbag_core.specs.EqualityLaws.{count_congr}
use Rattle.hashbag_core.specs.Joins.{IsOuterJoin}
use Rattle.hashbag_core.specs.Occurrences.{count}
use Rattle.hashbag_core.proofs.ContainsLemmas.{All-from_Contains, Contains-filter, Contains-filter_back, Contains-tail}
use Rattle.hashbag_core.proofs.ExcessLemmas.{an_instance}
use Rattle.hashbag_core.proofs.JoinLemmas.{count_of_item}
use Rattle.hashbag_core.proofs.MemberLemmas.{Contains-head, map-map}
use Rattle.hashbag_match_lib.specs.declared.matching.Row.{Row}
use Rattle.hashbag_match_lib.specs.Tallies.{in_neither, row_of_join, zero_row}

-- ---- lists

module _ {T : Type 0} (P : T → Type 0) where
  every_append : (xs ys : List T) → AllByRecursion P xs → AllByRecursion P ys → AllByRecursion P (xs ++ ys)
  every_append [] ys f g = g
  every_append (x ∷ xs) ys f g = (f.0, every_append xs ys f.1 g)

  every_from : (xs : List T) → ((x : T) → Contains xs x → P x) → AllByRecursion P xs
  every_from [] f = tt
  every_from (x ∷ xs) f = (f x (Contains-head x xs), every_from xs (λ y c. f y (Contains-tail x y xs c)))

  kept_step : (b : Bool) (x : T) (kept : List T) → P x → AllByRecursion P kept → AllByRecursion P (cond b (x ∷ kept) kept)
  kept_step true x kept h later = (h, later)
  kept_step false x kept h later = later

  every_filter : (q : T → Bool) (xs : List T) → AllByRecursion P xs → AllByRecursion P (filter q xs)
  every_filter q [] f = tt
  every_filter q (x ∷ xs) f = kept_step (q x) x (filter q xs) f.0 (every_filter q xs f.1)

module _ {T : Type 0} (eq : T → T → Bool) where
  distinct_append : (xs ys : List T) → IsDistinct eq xs → IsDistinct eq ys → ((x y : T) → Contains xs x → Contains ys y → eq x y ≡ false) → IsDistinct eq (xs ++ ys)
  distinct_append [] ys first second apart = second
  distinct_append (x ∷ xs) ys first second apart =
      IsDistinct-cons eq x (xs ++ ys)
      (every_append (λ y. eq x y ≡ false) xs ys (IsDistinct-head eq x xs first) (every_from (λ y. eq x y ≡ false) ys (λ y c. apart x y (Contains-head x xs) c)))
      (distinct_append xs ys (IsDistinct-tail eq x xs first) second (λ z y c d. apart z y (Contains-tail x z xs c) d))

  distinct_step : (b : Bool) (x : T) (kept : List T) → AllByRecursion (λ y. eq x y ≡ false) kept → IsDistinct eq kept → IsDistinct eq (cond b (x ∷ kept) kept)
  distinct_step true x kept apart later = IsDistinct-cons eq x kept apart later
  distinct_step false x kept apart later = later

  distinct_filter : (q : T → Bool) (xs : List T) → IsDistinct eq xs → IsDistinct eq (filter q xs)
  distinct_filter q [] h = h
  distinct_filter q (x ∷ xs) h =
      distinct_step (q x) x (filter q xs) (every_filter (λ y. eq x y ≡ false) q xs (IsDistinct-head eq x xs h)) (distinct_filter q xs (IsDistinct-tail eq x xs h))

module _ {T : Type 0} {eq : T → T → Bool} (laws : IsEquivalence eq) where
  -- values are apart where one occurs and the other doesn't
  apart_at : (x y : T) (X : List T) (b : Bool) → eq x y ≡ b → 0 < count eq x X → count eq y X ≡ 0 → eq x y ≡ false
  apart_at x y X true is some none = let same = count_congr laws X x y is in absurd (omega (arith, same, some, none))
  apart_at x y X false is some none = is

  -- ---- an outer join

  module _ (X Y : List T) (J : List (T × ℕ × ℕ)) (h : IsOuterJoin eq X Y J) where
    abbrev pub joined : List T
    joined = h.first ++ h.second

    of_first : (v : T) → Contains h.first v → 0 < count eq v X
    of_first v c = count_of_item laws v X (All-contains (λ y. Contains X y) h.first v h.of_first.only c)

    of_second : (v : T) → Contains h.second v → (0 < count eq v Y) × (count eq v X ≡ 0)
    of_second v c =
        let there = Contains-filter_back (λ y. count eq y X == 0) v Y (All-contains (λ y. Contains (filter (λ y. count eq y X == 0) Y) y) h.second v h.of_second.only c) in
        (count_of_item laws v Y there.0, eqb-true _ _ there.1)

    pub joined_once : IsDistinct eq joined
    joined_once = distinct_append eq h.first h.second h.of_first.once h.of_second.once (λ x y c d. apart_at x y X (eq x y) refl (of_first x c) (of_second y d).1)

    pub joined_only : All (λ v. 0 < count eq v X + count eq v Y) joined
    joined_only =
        let in_first = All-from_Contains (λ v. 0 < count eq v X + count eq v Y) h.first (λ v c. let some = of_first v c in omega arith) in
        let in_second = All-from_Contains (λ v. 0 < count eq v X + count eq v Y) h.second (λ v c. let some = (of_second v c).0 in omega arith) in
        All-append (λ v. 0 < count eq v X + count eq v Y) h.first h.second in_first in_second

    pub joined_all : (v : T) → 0 < count eq v X + count eq v Y → (x : T) × Contains joined x × (eq v x ≡ true)
    joined_all v some = elim (cases_lt 0 (count eq v X)) as (λ _. (x : T) × Contains joined x × (eq v x ≡ true)) [
      | inl in_X ↦
          let x = an_instance laws v X in_X in
          (x.0, Contains-append_left h.first h.second x.0 (All-contains (λ y. Contains h.first y) X x.0 h.of_first.all x.1), x.2)
      | inr not_in_X ↦
          let x = an_instance laws v Y (omega arith) in
          let same = count_congr laws X v x.0 x.2 in
          let none : count eq x.0 X ≡ 0 = omega arith in
          let alone = Contains-filter (λ y. count eq y X == 0) x.0 Y x.1 (eq-eqb _ _ none) in
          (x.0, Contains-append_right h.first h.second x.0 (All-contains (λ y. Contains h.second y) (filter (λ y. count eq y X == 0) Y) x.0 h.of_second.all alone), x.2)
    ]

  -- ---- the articles of two tallies: the lists X and Y have those with numbers, and Z and W those that lines name with the number 0

  module _ (X Y Z W : List T) (J K : List (T × ℕ × ℕ)) (j : IsOuterJoin eq X Y J) (k : IsOuterJoin eq Z W K) where
    abbrev without_numbers : List T
    without_numbers = filter (in_neither eq X Y) (joined Z W K k)

    abbrev pub articles : List T
    articles = joined X Y J j ++ without_numbers

    abbrev pub named : T → ℕ
    named v = count eq v X + count eq v Y + (count eq v Z + count eq v W)

    none_of : (v : T) → in_neither eq X Y v ≡ true → (count eq v X ≡ 0) × (count eq v Y ≡ 0)
    none_of v is = let parts = and_parts (count eq v X == 0) (count eq v Y == 0) is in (eqb-true _ _ parts.0, eqb-true _ _ parts.1)

    apart_both : (x y : T) (b : Bool) → eq x y ≡ b → 0 < count eq x X + count eq x Y → count eq y X ≡ 0 → count eq y Y ≡ 0 → eq x y ≡ false
    apart_both x y true is some no_X no_Y =
        let in_X = count_congr laws X x y is in
        let in_Y = count_congr laws Y x y is in
        absurd (omega (arith, in_X, in_Y, some, no_X, no_Y))
    apart_both x y false is some no_X no_Y = is

    pub articles_once : IsDistinct eq articles
    articles_once = distinct_append eq (joined X Y J j) without_numbers (joined_once X Y J j) (distinct_filter eq (in_neither eq X Y) (joined Z W K k) (joined_once Z W K k)) (λ x y c d.
        let some = All-contains (λ v. 0 < count eq v X + count eq v Y) (joined X Y J j) x (joined_only X Y J j) c in
        let none = none_of y (Contains-filter_back (in_neither eq X Y) y (joined Z W K k) d).1 in
        apart_both x y (eq x y) refl some none.0 none.1)

    pub articles_only : All (λ v. 0 < named v) articles
    articles_only =
        let numbered = All-weaker (λ v. 0 < count eq v X + count eq v Y) (λ v. 0 < named v) (λ v some. omega arith) (joined X Y J j) (joined_only X Y J j) in
        let zeros = All-from_Contains (λ v. 0 < named v) without_numbers (λ v c.
        let some = All-contains (λ v. 0 < count eq v Z + count eq v W) (joined Z W K k) v (joined_only Z W K k) (Contains-filter_back (in_neither eq X Y) v (joined Z W K k) c).0 in
        omega arith) in
        All-append (λ v. 0 < named v) (joined X Y J j) without_numbers numbered zeros

    pub articles_all : (v : T) → 0 < named v → (x : T) × Contains articles x × (eq v x ≡ true)
    articles_all v some = elim (cases_lt 0 (count eq v X + count eq v Y)) as (λ _. (x : T) × Contains articles x × (eq v x ≡ true)) [
      | inl numbered ↦ let x = joined_all X Y J j v numbered in (x.0, Contains-append_left (joined X Y J j) without_numbers x.0 x.1, x.2)
      | inr not_numbered ↦
          let x = joined_all Z W K k v (omega arith) in
          let in_X = count_congr laws X v x.0 x.2 in
          let in_Y = count_congr laws Y v x.0 x.2 in
          let no_X : count eq x.0 X ≡ 0 = omega arith in
          let no_Y : count eq x.0 Y ≡ 0 = omega arith in
          let kept = Contains-filter (in_neither eq X Y) x.0 (joined Z W K k) x.1 (and_from (count eq x.0 X == 0) (count eq x.0 Y == 0) (eq-eqb _ _ no_X) (eq-eqb _ _ no_Y)) in
          (x.0, Contains-append_right (joined X Y J j) without_numbers x.0 kept, x.2)
    ]

    -- ---- their rows

    abbrev pub row_of : T → Row T
    row_of v = record { article = v; ordered = count eq v X; delivered = count eq v Y }

    abbrev row_with : T → ℕ → ℕ → Row T
    row_with v m n = record { article = v; ordered = m; delivered = n }

    numbered_rows : map row_of_join J ≡ map row_of (joined X Y J j)
    numbered_rows = ap (λ (l : List (T × ℕ × ℕ)). map row_of_join l) j.counts ∙ map-map (λ v. (v, count eq v X, count eq v Y)) row_of_join (joined X Y J j)

    abbrev both : T → T × ℕ × ℕ
    both v = (v, count eq v Z, count eq v W)

    zero_is : (v : T) → in_neither eq X Y v ≡ true → zero_row (both v) ≡ row_of v
    zero_is v is = let none = none_of v is in ap (λ (n : ℕ). row_with v n 0) (sym none.0) ∙ ap (λ (n : ℕ). row_with v (count eq v X) n) (sym none.1)

    zero_step : (b : Bool) (v : T) (js : List (T × ℕ × ℕ)) (vs : List T) → in_neither eq X Y v ≡ b → map zero_row js ≡ map row_of vs → map zero_row (cond b (both v ∷ js) js) ≡ map row_of (cond b (v ∷ vs) vs)
    zero_step true v js vs is h = λ i. zero_is v is i ∷ h i
    zero_step false v js vs is h = h

    zero_rows : (vs : List T) → map zero_row (filter (λ e. in_neither eq X Y e.0) (map both vs)) ≡ map row_of (filter (in_neither eq X Y) vs)
    zero_rows [] = refl
    zero_rows (v ∷ vs) = zero_step (in_neither eq X Y v) v (filter (λ e. in_neither eq X Y e.0) (map both vs)) (filter (in_neither eq X Y) vs) refl (zero_rows vs)

    map_two : (xs ys : List T) → map row_of xs ++ map row_of ys ≡ map row_of (xs ++ ys)
    map_two [] ys = refl
    map_two (x ∷ xs) ys = ap (λ (l : List (Row T)). row_of x ∷ l) (map_two xs ys)

    pub all_rows : (front made : List (Row T)) → front ≡ map row_of_join J → made ≡ front ++ map zero_row (filter (λ e. in_neither eq X Y e.0) K) → made ≡ map row_of articles
    all_rows front made numbered is =
        let zeros : map zero_row (filter (λ e. in_neither eq X Y e.0) K) ≡ map row_of without_numbers =
        ap (λ (l : List (T × ℕ × ℕ)). map zero_row (filter (λ e. in_neither eq X Y e.0) l)) k.counts ∙ zero_rows (joined Z W K k) in
        is ∙ (λ i. (numbered ∙ numbered_rows) i ++ zeros i) ∙ map_two (joined X Y J j) without_numbers
