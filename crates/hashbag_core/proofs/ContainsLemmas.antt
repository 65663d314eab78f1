-- What stands in a list: at its places, and in what `map` and `filter` make of it.
use Rattle.std.proofs.Common.{◌≡◌, ℕ, zero, suc, ◌<◌, Bool, true, false, cond, List, [], ◌∷◌, length, get_or, map, filter, All, ◌⊎◌, inl, inr, refl, sym, ap, subst, ◌∙◌, arith}
use Rattle.std.specs.List.{Contains}
use Rattle.std.proofs.lemmas.Bool.{false≢true}
use Rattle.hashbag_core.proofs.MemberLemmas.{Contains-head}

module _ {X : Type 0} where
  pub not_in_nil : (y : X) → Contains [] y → ⊥
  not_in_nil y h = let below : h.0 < 0 = h.1 in absurd (omega arith)

  pub Contains-tail : (x y : X) (xs : List X) → Contains xs y → Contains (x ∷ xs) y
  Contains-tail x y xs h = let below : h.0 < length xs = h.1 in (suc h.0, omega arith, h.2)

  at_place : (x y : X) (xs : List X) (k : ℕ) → k < length (x ∷ xs) → get_or (x ∷ xs) k y ≡ y → (x ≡ y) ⊎ Contains xs y
  at_place x y xs zero below same = inl same
  at_place x y xs (suc k) below same = inr (k, omega arith, same)

  pub Contains-cases : (x y : X) (xs : List X) → Contains (x ∷ xs) y → (x ≡ y) ⊎ Contains xs y
  Contains-cases x y xs h = at_place x y xs h.0 h.1 h.2

  pub All-from_Contains : (P : X → Type 0) (xs : List X) → ((x : X) → Contains xs x → P x) → All P xs
  All-from_Contains P xs f = λ k d below. f (get_or xs k d) (k, below, inside xs k d below)
    where
      inside : (xs : List X) (k : ℕ) (d : X) → k < length xs → get_or xs k (get_or xs k d) ≡ get_or xs k d
      inside [] k d below = absurd (omega arith)
      inside (x ∷ xs) zero d below = refl
      inside (x ∷ xs) (suc k) d below = inside xs k d (omega arith)

  pub Contains-same : (xs ys : List X) (y : X) → xs ≡ ys → Contains xs y → Contains ys y
  Contains-same xs ys y e h = subst (λ (l : List X). Contains l y) e h

module _ {X Y : Type 0} (f : X → Y) where
  pub Contains-map : (x : X) (xs : List X) → Contains xs x → Contains (map f xs) (f x)
  Contains-map x [] h = absurd (not_in_nil x h)
  Contains-map x (z ∷ xs) h = elim (Contains-cases z x xs h) [
    | inl e ↦ subst (λ (y : Y). Contains (f z ∷ map f xs) y) (ap f e) (Contains-head (f z) (map f xs))
    | inr t ↦ Contains-tail (f z) (f x) (map f xs) (Contains-map x xs t)
  ]

  pub Contains-map_back : (y : Y) (xs : List X) → Contains (map f xs) y → (x : X) × Contains xs x × (f x ≡ y)
  Contains-map_back y [] h = absurd (not_in_nil y h)
  Contains-map_back y (z ∷ xs) h = elim (Contains-cases (f z) y (map f xs) h) [
    | inl e ↦ (z, Contains-head z xs, e)
    | inr t ↦ let later = Contains-map_back y xs t in (later.0, Contains-tail z later.0 xs later.1, later.2)
  ]

module _ {X : Type 0} (p : X → Bool) where
  kept_or_not : (b : Bool) (z x : X) (kept : List X) → (z ≡ x → b ≡ true) → (z ≡ x) ⊎ Contains kept x → Contains (cond b (z ∷ kept) kept) x
  kept_or_not true z x kept passes (inl e) = subst (λ (y : X). Contains (z ∷ kept) y) e (Contains-head z kept)
  kept_or_not true z x kept passes (inr t) = Contains-tail z x kept t
  kept_or_not false z x kept passes (inl e) = absurd (false≢true (passes e))
  kept_or_not false z x kept passes (inr t) = t

  pub Contains-filter : (x : X) (xs : List X) → Contains xs x → p x ≡ true → Contains (filter p xs) x
  Contains-filter x [] h passes = absurd (not_in_nil x h)
  Contains-filter x (z ∷ xs) h passes = kept_or_not (p z) z x (filter p xs) (λ e. ap p e ∙ passes) (elim (Contains-cases z x xs h) as (λ _. (z ≡ x) ⊎ Contains (filter p xs) x) [
    | inl e ↦ inl e
    | inr t ↦ inr (Contains-filter x xs t passes)
  ])

  back_step : (b : Bool) (z x : X) (xs kept : List X) → p z ≡ b → (Contains kept x → Contains xs x × (p x ≡ true)) → Contains (cond b (z ∷ kept) kept) x → Contains (z ∷ xs) x × (p x ≡ true)
  back_step true z x xs kept is later h = elim (Contains-cases z x kept h) [
    | inl e ↦ (subst (λ (y : X). Contains (z ∷ xs) y) e (Contains-head z xs), ap p (sym e) ∙ is)
    | inr t ↦ let u = later t in (Contains-tail z x xs u.0, u.1)
  ]
  back_step false z x xs kept is later h = let u = later h in (Contains-tail z x xs u.0, u.1)

  pub Contains-filter_back : (x : X) (xs : List X) → Contains (filter p xs) x → Contains xs x × (p x ≡ true)
  Contains-filter_back x [] h = absurd (not_in_nil x h)
  Contains-filter_back x (z ∷ xs) h = back_step (p z) z x xs (filter p xs) refl (Contains-filter_back x xs) h
