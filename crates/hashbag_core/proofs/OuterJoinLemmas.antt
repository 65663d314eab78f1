-- The other joins follow from an outer join alone.
use Rattle.std.proofs.Common.{◌≡◌, ℕ, ◌<◌, ◌-◌, ◌==◌, nat_lt, ℤ, pos, ◌-ℤ◌, Bool, true, false, cond, List, [], ◌∷◌, ◌++◌, map, filter, All, refl, sym, ap, subst, ◌∙◌, arith}
use borrow.Author.Tests.{eqb-true}
use Rattle.std.specs.Cmp.{IsEquivalence}
use Rattle.std.specs.List.{Contains}
use Rattle.std.proofs.lemmas.Bool.Decides.{nat_tests}
use Rattle.std.proofs.lemmas.List.{map-append, append-nil}
use Rattle.std.proofs.lemmas.List.Elements.{All-head, All-tail, All-weaker, filter-append}
use Rattle.hashbag_core.specs.Occurrences.{count}
use Rattle.hashbag_core.specs.Walks.{IsSetWalk}
use Rattle.hashbag_core.specs.Joins.{saturated, only_in_second, IsOuterJoin, IsDifference, IsNotIn, IsSignedDifference}
use Rattle.hashbag_core.specs.JoinsLeft.{excesses, lacking, subtracted, excesses_of_join, lacking_of_join}
use Rattle.hashbag_core.proofs.ContainsLemmas.{Contains-filter_back}
use Rattle.hashbag_core.proofs.JoinLemmas.{count_of_item, difference_from_walk, not_in_from_walk}
use Rattle.hashbag_core.proofs.MemberLemmas.{map-map}

-- ---- filters of what `map` makes

kept_map : {X Y : Type 0} (f : X → Y) (b : Bool) (x : X) (xs : List X) (ys : List Y) → map f xs ≡ ys → map f (cond b (x ∷ xs) xs) ≡ cond b (f x ∷ ys) ys
kept_map f true x xs ys h = ap (λ l. f x ∷ l) h
kept_map f false x xs ys h = h

-- where a test of what f gives is a test of the item, it may come first
filter_map_same : {X Y : Type 0} (f : X → Y) (p : X → Bool) (q : Y → Bool) → ((x : X) → p x ≡ q (f x)) → (xs : List X) → map f (filter p xs) ≡ filter q (map f xs)
filter_map_same f p q same [] = refl
filter_map_same f p q same (x ∷ xs) = kept_map f (p x) x (filter p xs) _ (filter_map_same f p q same xs) ∙ ap (λ b. cond b (f x ∷ filter q (map f xs)) (filter q (map f xs))) (same x)

none_pass : {X : Type 0} (p : X → Bool) (xs : List X) → All (λ x. p x ≡ false) xs → filter p xs ≡ []
none_pass p [] h = refl
none_pass p (x ∷ xs) h = ap (λ b. cond b (x ∷ filter p xs) (filter p xs)) (All-head (λ x. p x ≡ false) x xs h) ∙ none_pass p xs (All-tail (λ x. p x ≡ false) x xs h)

nothing_less : (m n : ℕ) → m ≡ 0 → nat_lt 0 (m - n) ≡ false
nothing_less m n none = let no_more : m - n ≡ 0 = omega arith in ap (λ (k : ℕ). nat_lt 0 k) no_more

some_is_not_zero : (k : ℕ) → 0 < k → (k == 0) ≡ false
some_is_not_zero k h = grind (arith, nat_tests)

-- ---- of values by reference

module _ {X Y : Type 0} (f : X → Y) where
  abbrev seen : X × ℕ → Y × ℕ
  seen e = (f e.0, e.1)

  abbrev seen_both : X × ℕ × ℕ → Y × ℕ × ℕ
  seen_both j = (f j.0, j.1, j.2)

  pub excesses_of_join-map : (js : List (X × ℕ × ℕ)) → map (λ e. (f e.0, e.1)) (excesses_of_join js) ≡ excesses_of_join (map (λ j. (f j.0, j.1, j.2)) js)
  excesses_of_join-map js =
      let less : X × ℕ × ℕ → X × ℕ = λ j. (j.0, j.1 - j.2) in
      let seen_less : Y × ℕ × ℕ → Y × ℕ = λ j. (j.0, j.1 - j.2) in
      filter_map_same seen (λ e. nat_lt 0 e.1) (λ e. nat_lt 0 e.1) (λ e. refl) (map less js)
      ∙ ap (λ (l : List (Y × ℕ)). filter (λ e. nat_lt 0 e.1) l) (map-map less seen js ∙ sym (map-map seen_both seen_less js))

  pub lacking_of_join-map : (js : List (X × ℕ × ℕ)) → map (λ e. (f e.0, e.1)) (lacking_of_join js) ≡ lacking_of_join (map (λ j. (f j.0, j.1, j.2)) js)
  lacking_of_join-map js =
      let first : X × ℕ × ℕ → X × ℕ = λ j. (j.0, j.1) in
      let seen_first : Y × ℕ × ℕ → Y × ℕ = λ j. (j.0, j.1) in
      map-map first seen (filter (λ j. j.2 == 0) js) ∙ sym (map-map seen_both seen_first (filter (λ j. j.2 == 0) js))
      ∙ ap (λ (l : List (Y × ℕ × ℕ)). map seen_first l) (filter_map_same seen_both (λ j. j.2 == 0) (λ j. j.2 == 0) (λ j. refl) js)

  pub subtracted-map : (js : List (X × ℕ × ℕ)) → map (λ e. (f e.0, e.1)) (subtracted js) ≡ subtracted (map (λ j. (f j.0, j.1, j.2)) js)
  subtracted-map js =
      let less : X × ℕ × ℕ → X × ℤ = λ j. (j.0, saturated (pos j.1 -ℤ pos j.2)) in
      let shown : X × ℤ → Y × ℤ = λ e. (f e.0, e.1) in
      let seen_less : Y × ℕ × ℕ → Y × ℤ = λ j. (j.0, saturated (pos j.1 -ℤ pos j.2)) in
      map-map less shown js ∙ sym (map-map seen_both seen_less js)

-- ---- the joins

module _ {T : Type 0} {eq : T → T → Bool} (laws : IsEquivalence eq) (X Y : List T) (J : List (T × ℕ × ℕ)) (h : IsOuterJoin eq X Y J) where
  abbrev both : T → T × ℕ × ℕ
  both v = (v, count eq v X, count eq v Y)

  abbrev first_walk : List (T × ℕ)
  first_walk = map (λ v. (v, count eq v X)) h.first

  is_walk : IsSetWalk eq X first_walk
  is_walk = record { values = h.first; each = h.of_first; counts = refl }

  -- what the second part names occurs in Y alone
  of_second : (P : T → Type 0) → ((v : T) → Contains Y v → count eq v X ≡ 0 → P v) → All P h.second
  of_second P f = All-weaker (λ v. Contains (only_in_second eq X Y) v) P (λ v c. let there = Contains-filter_back (λ y. count eq y X == 0) v Y c in f v there.0 (eqb-true _ _ there.1)) h.second h.of_second.only

  -- a filter of what `g` makes of the join, where nothing of the second part passes, is one of its first part
  of_first_part : {Z : Type 0} (g : T → Z) (p : Z → Bool) → All (λ v. p (g v) ≡ false) h.second → filter p (map g (h.first ++ h.second)) ≡ filter p (map g h.first)
  of_first_part g p none =
      ap (filter p) (map-append g h.first h.second) ∙ filter-append p (map g h.first) (map g h.second)
      ∙ ap (λ l. filter p (map g h.first) ++ l) (sym (filter_map_same g (λ v. p (g v)) p (λ v. refl) h.second) ∙ ap (map g) (none_pass (λ v. p (g v)) h.second none))
      ∙ append-nil _

  excesses_of_join_is : excesses_of_join J ≡ excesses eq Y first_walk
  excesses_of_join_is =
      let less : T → T × ℕ = λ v. (v, count eq v X - count eq v Y) in
      ap (λ (l : List (T × ℕ × ℕ)). excesses_of_join l) h.counts
      ∙ ap (λ (l : List (T × ℕ)). filter (λ e. nat_lt 0 e.1) l) (map-map both (λ j. (j.0, j.1 - j.2)) (h.first ++ h.second))
      ∙ of_first_part less (λ e. nat_lt 0 e.1) (of_second (λ v. nat_lt 0 (count eq v X - count eq v Y) ≡ false) (λ v there none. nothing_less (count eq v X) (count eq v Y) none))
      ∙ ap (λ (l : List (T × ℕ)). filter (λ e. nat_lt 0 e.1) l) (sym (map-map (λ v. (v, count eq v X)) (λ e. (e.0, e.1 - count eq e.0 Y)) h.first))

  lacking_of_join_is : lacking_of_join J ≡ lacking eq Y first_walk
  lacking_of_join_is =
      let first : T × ℕ × ℕ → T × ℕ = λ j. (j.0, j.1) in
      let counted : T → T × ℕ = λ v. (v, count eq v X) in
      let alone_in_X : T → Bool = λ v. count eq v Y == 0 in
      ap (λ (l : List (T × ℕ × ℕ)). lacking_of_join l) h.counts
      ∙ ap (λ (l : List (T × ℕ × ℕ)). map first l)
      (of_first_part both (λ j. j.2 == 0) (of_second (λ v. (count eq v Y == 0) ≡ false) (λ v there none. some_is_not_zero (count eq v Y) (count_of_item laws v Y there)))
      ∙ sym (filter_map_same both alone_in_X (λ j. j.2 == 0) (λ v. refl) h.first))
      ∙ map-map both first (filter alone_in_X h.first)
      ∙ filter_map_same counted alone_in_X (λ e. count eq e.0 Y == 0) (λ v. refl) h.first

  -- the values of an outer join whose first count is above the second are a difference, with the excess
  pub difference_from_outer : IsDifference eq X Y (excesses_of_join J)
  difference_from_outer = subst (λ (l : List (T × ℕ)). IsDifference eq X Y l) (sym excesses_of_join_is) (difference_from_walk laws X Y first_walk is_walk)

  -- the values of an outer join whose second count is 0 are what `not_in` gives
  pub not_in_from_outer : IsNotIn eq X Y (lacking_of_join J)
  not_in_from_outer = subst (λ (l : List (T × ℕ)). IsNotIn eq X Y l) (sym lacking_of_join_is) (not_in_from_walk laws X Y first_walk is_walk)

  -- an outer join with the first count less the second is the signed difference
  pub signed_from_outer : IsSignedDifference eq X Y (subtracted J)
  signed_from_outer = record { outer = J; is_outer = h; signed = refl }
