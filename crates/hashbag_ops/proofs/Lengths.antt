-- Lists with the same counts are equally long.
use Rattle.std.proofs.Common.{◌≡◌, ℕ, suc, ◌+◌, ◌<◌, Bool, true, false, cond, List, [], ◌∷◌, length, refl, sym, ◌∙◌, ap, arith}
use Rattle.std.specs.Cmp.{IsEquivalence}
use Rattle.std.proofs.lemmas.List.Sums.{sum_by-cons}
use Rattle.hashbag_core.specs.Occurrences.{count, SameCounts}

module _ {T : Type 0} {eq : T → T → Bool} (laws : IsEquivalence eq) where
  abbrev one : Bool → ℕ
  one b = cond b 1 0

  -- X without its first item that is equal to v
  abbrev without_one : T → List T → List T
  without_one v [] = []
  without_one v (x ∷ X) = cond (eq v x) X (x ∷ without_one v X)

  counted : (u x : T) (X : List T) → count eq u (x ∷ X) ≡ one (eq u x) + count eq u X
  counted u x X = sum_by-cons (λ y. one (eq u y)) x X

  -- v doesn't occur once more for an x that it doesn't equal
  counted_other : (v x : T) (X : List T) → eq v x ≡ false → count eq v (x ∷ X) ≡ count eq v X
  counted_other v x X other = let here = counted v x X in let none : one (eq v x) ≡ 0 = ap one other in omega (arith, here, none)

  one_fewer : (u v x : T) (X : List T) (b : Bool) → eq v x ≡ b → (0 < count eq v X → count eq u X ≡ count eq u (without_one v X) + one (eq u v)) → 0 < count eq v (x ∷ X)
      → count eq u (x ∷ X) ≡ count eq u (cond b X (x ∷ without_one v X)) + one (eq u v)
  one_fewer u v x X true same later some =
      let here = counted u x X in
      let by_laws : eq u v ≡ eq u x = laws.symm u v ∙ laws.congr v x u same ∙ laws.symm x u in
      let as_much : one (eq u v) ≡ one (eq u x) = ap one by_laws in
      omega (arith, here, as_much)
  one_fewer u v x X false other later some =
      let here = counted u x X in
      let there = counted u x (without_one v X) in
      let own = counted_other v x X other in
      let fewer = later (omega (arith, own, some)) in
      omega (arith, here, there, fewer)

  count_without : (u v : T) (X : List T) → 0 < count eq v X → count eq u X ≡ count eq u (without_one v X) + one (eq u v)
  count_without u v [] some = absurd (omega arith)
  count_without u v (x ∷ X) some = one_fewer u v x X (eq v x) refl (count_without u v X) some

  one_shorter : (v x : T) (X : List T) (b : Bool) → eq v x ≡ b → (0 < count eq v X → length X ≡ suc (length (without_one v X))) → 0 < count eq v (x ∷ X) → suc (length X) ≡ suc (length (cond b X (x ∷ without_one v X)))
  one_shorter v x X true same later some = refl
  one_shorter v x X false other later some =
      let own = counted_other v x X other in
      ap (λ n. suc n) (later (omega (arith, own, some)))

  length_without : (v : T) (X : List T) → 0 < count eq v X → length X ≡ suc (length (without_one v X))
  length_without v [] some = absurd (omega arith)
  length_without v (x ∷ X) some = one_shorter v x X (eq v x) refl (length_without v X) some

  own_count : (v : T) (X : List T) → 0 < count eq v (v ∷ X)
  own_count v X =
      let here = counted v v X in
      let itself : one (eq v v) ≡ 1 = ap one (laws.refl v) in
      omega (arith, here, itself)

  -- lists with the same counts are equally long
  pub same_length : (X Y : List T) → SameCounts eq X Y → length X ≡ length Y
  same_length [] [] same = refl
  same_length [] (y ∷ Y) same = let some = own_count y Y in let none = same y in absurd (omega (arith, some, none))
  same_length (x ∷ X) Y same =
      let own = own_count x X in
      let is = same x in
      let some : 0 < count eq x Y = omega (arith, own, is) in
      let later = same_length X (without_one x Y) (λ u.
      let whole = same u in
      let first = counted u x X in
      let fewer = count_without u x Y some in
      omega (arith, whole, first, fewer)) in
      ap (λ n. suc n) later ∙ sym (length_without x Y some)
