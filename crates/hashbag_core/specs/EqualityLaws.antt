-- The equality of bags decides whether all counts agree, and is an equivalence.
use Rattle.std.specs.Prelude.{◌≡◌, ℕ, zero, suc, ◌+◌, Bool, true, false, cond, nat_eq, List, [], ◌∷◌, ◌++◌, length, filter, refl}
use Rattle.std.proofs.Common.{sym, ◌∙◌, ap, arith}
use Rattle.std.specs.List.{count_by, AllByRecursion}
use Rattle.std.specs.Bool.{Decides}
use Rattle.std.specs.Cmp.{IsEquivalence, IsPartialEquivalence, both_ways}
use Rattle.std.proofs.lemmas.Bool.Decides.{Decides-eqb}
use Rattle.std.proofs.lemmas.List.{length-append}
use Rattle.std.proofs.lemmas.List.Elements.{filter-append}
use Rattle.std.proofs.lemmas.List.Sums.{length-filter, list_all-from_AllPass, AllPass-from_list_all}
use Rattle.hashbag_table.proofs.CloneLemmas.{all_to_recursion}
use Rattle.hashbag_core.specs.Bag.{Bag}
use Rattle.hashbag_core.specs.Occurrences.{count, SameCounts}
use Rattle.hashbag_core.specs.Equality.{same_counts, bag_eq}

module _ {T : Type 0} {eq : T → T → Bool} (laws : IsEquivalence eq) where
  -- equal values have equal counts
  pub count_congr : (X : List T) (v x : T) → eq v x ≡ true → count eq v X ≡ count eq x X
  count_congr X v x same = λ i. count_by (λ y. laws.congr v x y same i) X

  pub count_append : (v : T) (X Y : List T) → count eq v (X ++ Y) ≡ count eq v X + count eq v Y
  count_append v X Y =
      let a = length-filter (eq v) X in
      let b = length-filter (eq v) Y in
      let c = length-filter (eq v) (X ++ Y) in
      let d = ap (λ (l : List T). length l) (filter-append (eq v) X Y) in
      let e = length-append (filter (eq v) X) (filter (eq v) Y) in
      omega arith

  -- ---- the test decides whether all counts agree

  module _ (X Y : List T) where
    -- whether x has the same count in X and in Y
    abbrev agrees : T → Bool
    agrees x = nat_eq (count eq x X) (count eq x Y)

    found_step : (v x : T) (Z : List T) (b : Bool) → eq v x ≡ b → agrees x ≡ true → ((length (filter (eq v) Z) ≡ 0 → ⊥) → count eq v X ≡ count eq v Y)
        → (length (cond b (x ∷ filter (eq v) Z) (filter (eq v) Z)) ≡ 0 → ⊥) → count eq v X ≡ count eq v Y
    found_step v x Z true e t later some = count_congr X v x e ∙ (Decides-eqb (count eq x X) (count eq x Y)).0 t ∙ sym (count_congr Y v x e)
    found_step v x Z false e t later some = later some

    -- if each item of Z has the same count in X and in Y, then v has the same count in both if v is equal to an item of Z
    found : (v : T) (Z : List T) → AllByRecursion (λ x. agrees x ≡ true) Z → (length (filter (eq v) Z) ≡ 0 → ⊥) → count eq v X ≡ count eq v Y
    found v [] h some = absurd (some refl)
    found v (x ∷ Z) h some = found_step v x Z (eq v x) refl h.0 (found v Z h.1) some

    some_or_none : (n m : ℕ) → ((n + m ≡ 0 → ⊥) → n ≡ m) → n ≡ m
    some_or_none zero zero f = refl
    some_or_none zero (suc m) f = f (λ e. absurd (omega arith))
    some_or_none (suc n) m f = f (λ e. absurd (omega arith))

  -- `same_counts` is true exactly if the lists have the same counts
  pub same_counts-Decides : (X Y : List T) → Decides (same_counts eq X Y) (SameCounts eq X Y)
  unfolding same_counts
  same_counts-Decides X Y = (
    λ h v. some_or_none X Y (count eq v X) (count eq v Y) (λ some.
        let all = AllPass-from_list_all (agrees X Y) (X ++ Y) h in
        found X Y v (X ++ Y) (all_to_recursion (λ x. agrees X Y x ≡ true) (X ++ Y) all) (λ e. some (sym (count_append v X Y) ∙ sym (length-filter (eq v) (X ++ Y)) ∙ e))),
    λ h. list_all-from_AllPass (agrees X Y) (X ++ Y) (λ k d below. (Decides-eqb _ _).1 (h _)),
  )

  module _ {S : Type 0} where
    bag_eq_symm : (a b : Bag T S) → bag_eq eq a b ≡ bag_eq eq b a
    bag_eq_symm a b = both_ways _ _
        (λ h. (same_counts-Decides b.items a.items).1 (λ v. sym ((same_counts-Decides a.items b.items).0 h v)))
        (λ h. (same_counts-Decides a.items b.items).1 (λ v. sym ((same_counts-Decides b.items a.items).0 h v)))

    bag_eq_trans : (a b c : Bag T S) → bag_eq eq a b ≡ true → bag_eq eq b c ≡ true → bag_eq eq a c ≡ true
    bag_eq_trans a b c p q = (same_counts-Decides a.items c.items).1 (λ v. (same_counts-Decides a.items b.items).0 p v ∙ (same_counts-Decides b.items c.items).0 q v)

    pub bag_eq_refl : (a : Bag T S) → bag_eq eq a a ≡ true
    bag_eq_refl a = (same_counts-Decides a.items a.items).1 (λ v. refl)

    pub bag_eq_partial : IsPartialEquivalence (bag_eq eq {S = S})
    bag_eq_partial = record { symm = bag_eq_symm; trans = bag_eq_trans }
