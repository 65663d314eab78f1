-- How many distinct values a list has, whatever its order.
use Rattle.std.proofs.Common.{◌≡◌, ℕ, suc, ◌+◌, ◌<◌, ◌≤◌, ◌==◌, Bool, true, false, cond, not, List, [], ◌∷◌, refl, sym, ap, subst, ◌∙◌, inl, inr, arith}
use Rattle.std.specs.Cmp.{IsEquivalence}
use Rattle.std.specs.List.Sorted.{IsPermutation}
use Rattle.std.proofs.lemmas.Bool.{cases_lt}
use Rattle.std.proofs.lemmas.Bool.Decides.{nat_tests}
use Rattle.std.proofs.lemmas.List.Sums.{sum_by-cons}
use Rattle.hashbag_core.specs.Occurrences.{count, others, distinct_count}
use Rattle.hashbag_core.proofs.OccurrenceLemmas.{count_rearranged}

first_counts : (k d : ℕ) → k ≡ 0 → (cond (k == 0) 1 0) + d ≡ suc d
first_counts k d none = grind (arith, nat_tests)

later_counts_not : (k d : ℕ) → 0 < k → (cond (k == 0) 1 0) + d ≡ d
later_counts_not k d some = grind (arith, nat_tests)

abbrev one_if : Bool → ℕ
one_if b = cond b 1 0

abbrev one_if_none : ℕ → ℕ
one_if_none k = cond (k == 0) 1 0

module _ {T : Type 0} {eq : T → T → Bool} (laws : IsEquivalence eq) where
  count_more : (v y : T) (Y : List T) → count eq v (y ∷ Y) ≡ one_if (eq v y) + count eq v Y
  count_more v y Y = sum_by-cons (λ x. one_if (eq v x)) y Y

  pub count_alike : (x y : T) → eq x y ≡ true → (Y : List T) → count eq x Y ≡ count eq y Y
  count_alike x y e [] = refl
  count_alike x y e (z ∷ Y) =
      let a = count_more x z Y in
      let b = count_more y z Y in
      let c : one_if (eq x z) ≡ one_if (eq y z) = ap one_if (laws.congr x y z e) in
      let d = count_alike x y e Y in
      omega (arith, a, b, c, d)

  one_counts : (v y : T) (Y : List T) → eq v y ≡ true → 0 < count eq v (y ∷ Y)
  one_counts v y Y e =
      let a = count_more v y Y in
      let b : one_if (eq v y) ≡ 1 = ap one_if e in
      omega (arith, a, b)

  pub other_counts : (v y : T) (Y : List T) → eq v y ≡ false → count eq v (y ∷ Y) ≡ count eq v Y
  other_counts v y Y e =
      let a = count_more v y Y in
      let b : one_if (eq v y) ≡ 0 = ap one_if e in
      omega (arith, a, b)

  later_counts : (v y : T) (Y : List T) → 0 < count eq v Y → 0 < count eq v (y ∷ Y)
  later_counts v y Y some = let a = count_more v y Y in omega (arith, a, some)

  apart : (x v y : T) → eq x v ≡ false → eq x y ≡ true → eq v y ≡ false
  apart x v y ne e = laws.symm v y ∙ sym (laws.congr x y v e) ∙ ne

  kept_step : (x v y : T) (Y : List T) → eq x v ≡ false → count eq v (others eq x Y) ≡ count eq v Y → (b : Bool) → eq x y ≡ b → count eq v (cond (not b) (y ∷ others eq x Y) (others eq x Y)) ≡ count eq v (y ∷ Y)
  kept_step x v y Y ne rest true e = rest ∙ sym (other_counts v y Y (apart x v y ne e))
  kept_step x v y Y ne rest false e =
      let a = count_more v y (others eq x Y) in
      let b = count_more v y Y in
      omega (arith, a, b, rest)

  -- without the items equal to x, every other value occurs as often
  kept_count : (x v : T) → eq x v ≡ false → (Y : List T) → count eq v (others eq x Y) ≡ count eq v Y
  kept_count x v ne [] = refl
  kept_count x v ne (y ∷ Y) = kept_step x v y Y ne (kept_count x v ne Y) (eq x y) refl

  -- of Y without the items equal to x, there are no more distinct values, and fewer where x occurs in Y
  abbrev IsFewer : T → List T → List T → Type 0
  IsFewer x Z Y = (distinct_count eq Z ≤ distinct_count eq Y) × (0 < count eq x Y → distinct_count eq Z + 1 ≤ distinct_count eq Y)

  fewer_step : (x y : T) (Y : List T) → IsFewer x (others eq x Y) Y → (b : Bool) → eq x y ≡ b → IsFewer x (cond (not b) (y ∷ others eq x Y) (others eq x Y)) (y ∷ Y)
  fewer_step x y Y rest true e = elim (cases_lt 0 (count eq y Y)) [
    | inl some ↦
        let same = later_counts_not (count eq y Y) (distinct_count eq Y) some in
        let r = rest.0 in
        let more = rest.1 (let k = count_alike x y e Y in omega (arith, k, some)) in
        (omega (arith, same, r), λ _. omega (arith, same, more))
    | inr none ↦
        let same = first_counts (count eq y Y) (distinct_count eq Y) (omega (arith, none)) in
        let r = rest.0 in
        (omega (arith, same, r), λ _. omega (arith, same, r))
  ]
  fewer_step x y Y rest false e =
      let same : one_if_none (count eq y (others eq x Y)) ≡ one_if_none (count eq y Y) = ap one_if_none (kept_count x y e Y) in
      let r = rest.0 in (
        omega (arith, same, r),
        λ some. let s = other_counts x y Y e in let more = rest.1 (omega (arith, s, some)) in omega (arith, same, more),
      )

  one_fewer : (x : T) (Y : List T) → IsFewer x (others eq x Y) Y
  one_fewer x [] = (omega arith, λ some. absurd (omega (arith, some)))
  one_fewer x (y ∷ Y) = fewer_step x y Y (one_fewer x Y) (eq x y) refl

  still : (x v : T) (X Y : List T) → count eq x X ≤ 0 → 0 < count eq v X → 0 < count eq v Y → (b : Bool) → eq x v ≡ b → 0 < count eq v (others eq x Y)
  still x v X Y none there later true e = absurd (let k = count_alike x v e X in omega (arith, k, there, none))
  still x v X Y none there later false e = let k = kept_count x v e Y in omega (arith, k, later)

  -- a list has no fewer distinct values than one whose values all occur in it
  includes : (X Y : List T) → ((v : T) → 0 < count eq v X → 0 < count eq v Y) → distinct_count eq X ≤ distinct_count eq Y
  includes [] Y h = omega arith
  includes (x ∷ X) Y h = elim (cases_lt 0 (count eq x X)) [
    | inl some ↦
        let same = later_counts_not (count eq x X) (distinct_count eq X) some in
        let rest = includes X Y (λ v there. h v (later_counts v x X there)) in
        omega (arith, same, rest)
    | inr none ↦
        let same = first_counts (count eq x X) (distinct_count eq X) (omega (arith, none)) in
        let rest = includes X (others eq x Y) (λ v there. still x v X Y none there (h v (later_counts v x X there)) (eq x v) refl) in
        let fewer = (one_fewer x Y).1 (h x (one_counts x x X (laws.refl x))) in
        omega (arith, same, rest, fewer)
  ]

  pub distinct_rearranged : (X Y : List T) → IsPermutation X Y → distinct_count eq X ≡ distinct_count eq Y
  distinct_rearranged X Y h =
      let a = includes X Y (λ v some. subst (λ (n : ℕ). 0 < n) (count_rearranged laws v X Y h) some) in
      let b = includes Y X (λ v some. subst (λ (n : ℕ). 0 < n) (sym (count_rearranged laws v X Y h)) some) in
      omega (arith, a, b)
