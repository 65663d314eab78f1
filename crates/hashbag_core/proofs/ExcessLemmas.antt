-- What a difference has of one value.
use Rattle.std.proofs.Common.{◌≡◌, ℕ, ◌<◌, ◌+◌, ◌-◌, ltb, min, Bool, true, false, List, [], ◌∷◌, length, filter, find, slice_get, Option, Some, None, option_map, unwrap_or, refl, sym, ap, subst, ◌∙◌, arith}
use borrow.Author.Tests.{ltb-true, ltb-false}
use Rattle.std.specs.Borrow.{Bor}
use Rattle.std.specs.Cmp.{IsEquivalence}
use Rattle.std.specs.List.{Contains}
use Rattle.std.proofs.lemmas.List.Sums.{length-filter}
use Rattle.hashbag_table.proofs.ListLemmas.{find-filter}
use Rattle.hashbag_core.specs.Occurrences.{count}
use Rattle.hashbag_core.specs.Joins.{IsDifference}
use Rattle.hashbag_core.proofs.ContainsLemmas.{not_in_nil, Contains-same, Contains-filter, Contains-filter_back}
use Rattle.hashbag_core.proofs.MemberLemmas.{Contains-head}

first_of : {X : Type 0} (l : List X) (x : X) → slice_get l 0 ≡ Some x → Contains l x
first_of [] x e = cc
first_of (y ∷ l) x e = let same : y ≡ x = cc in subst (λ z. Contains (y ∷ l) z) same (Contains-head y l)

none_of : {X : Type 0} (l : List X) → slice_get l 0 ≡ None → l ≡ []
none_of [] e = refl
none_of (y ∷ l) e = cc

module _ {T : Type 0} {eq : T → T → Bool} (laws : IsEquivalence eq) where
  count_of_equal : (v x : T) (X : List T) → eq v x ≡ true → count eq v X ≡ count eq x X
  count_of_equal v x X p = sym (length-filter (eq v) X) ∙ (λ i. length (filter (λ z. laws.congr v x z p i) X)) ∙ length-filter (eq x) X

  -- a value that occurs has an instance
  pub an_instance : (v : T) (X : List T) → 0 < count eq v X → (x : T) × Contains X x × (eq v x ≡ true)
  an_instance v X some = pick (filter (eq v) X) refl
    where
      pick : (l : List T) → l ≡ filter (eq v) X → (x : T) × Contains X x × (eq v x ≡ true)
      pick [] e = let long = length-filter (eq v) X in let none : length (filter (eq v) X) ≡ 0 = ap (λ (l : List T). length l) (sym e) in absurd (omega arith)
      pick (x ∷ l) e = let there = Contains-filter_back (eq v) x X (Contains-same (x ∷ l) _ x e (Contains-head x l)) in (x, there.0, there.1)

  module _ (v : T) (X Y : List T) (E : List (T × ℕ)) (h : IsDifference eq X Y E) where
    abbrev of_v : T × ℕ → Bool
    of_v e = eq e.0 v

    -- an entry of v has the excess
    excess_of_entry : (e : T × ℕ) → Contains E e → eq e.0 v ≡ true → e.1 ≡ count eq v X - count eq v Y
    excess_of_entry e c p =
        let f = (h.exactly e.0 e.1).0 c in
        let in_X = count_of_equal e.0 v X p in
        let in_Y = count_of_equal e.0 v Y p in
        f.1 ∙ λ i. in_X i - in_Y i

    -- where there is none, there is no excess
    no_excess : filter of_v E ≡ [] → (b : Bool) → ltb (count eq v Y) (count eq v X) ≡ b → count eq v X - count eq v Y ≡ 0
    no_excess none true more =
        let below = ltb-true _ _ more in
        let x = an_instance v X (omega arith) in
        let in_X = count_of_equal v x.0 X x.2 in
        let in_Y = count_of_equal v x.0 Y x.2 in
        let n = count eq x.0 X - count eq x.0 Y in
        let some : 0 < n = omega arith in
        let there = (h.exactly x.0 n).1 (x.1, refl, some) in
        let kept = Contains-filter of_v (x.0, n) E there (sym (laws.congr v x.0 v x.2) ∙ laws.refl v) in
        absurd (not_in_nil (x.0, n) (Contains-same (filter of_v E) [] (x.0, n) none kept))
    no_excess none false few = let above = ltb-false _ _ few in omega arith

    excess_found : (o : Option (T × ℕ)) → find of_v E ≡ o → unwrap_or (option_map (λ (e : T × ℕ). e.1) o) 0 ≡ count eq v X - count eq v Y
    excess_found None found = sym (no_excess (none_of (filter of_v E) (sym (find-filter of_v E) ∙ found)) (ltb (count eq v Y) (count eq v X)) refl)
    excess_found (Some e) found =
        let kept = first_of (filter of_v E) e (sym (find-filter of_v E) ∙ found) in
        let there = Contains-filter_back of_v e E kept in
        excess_of_entry e there.0 there.1

  first_number : (r : Option (Bor T × ℕ)) → unwrap_or (option_map (λ (e : Bor T × ℕ). e.1) r) 0 ≡ unwrap_or (option_map (λ (e : T × ℕ). e.1) (option_map (λ (e : Bor T × ℕ). (e.0.now, e.1)) r)) 0
  first_number None = refl
  first_number (Some e) = refl

  -- the count in X is the lesser of both counts and what a difference has of v
  pub excess_law : (v : T) (X Y : List T) (E : List (T × ℕ)) → IsDifference eq X Y E → (r : Option (Bor T × ℕ)) → option_map (λ (e : Bor T × ℕ). (e.0.now, e.1)) r ≡ find (λ e. eq e.0 v) E
      → count eq v X ≡ min (count eq v X) (count eq v Y) + unwrap_or (option_map (λ (e : Bor T × ℕ). e.1) r) 0
  excess_law v X Y E h r is =
      let same = first_number r ∙ ap (λ (o : Option (T × ℕ)). unwrap_or (option_map (λ (e : T × ℕ). e.1) o) 0) is in
      let found = excess_found v X Y E h (find (λ e. eq e.0 v) E) refl in
      omega arith
