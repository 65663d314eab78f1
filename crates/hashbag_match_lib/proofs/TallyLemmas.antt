-- Lists that are added up as they are read.
use Rattle.std.proofs.Common.{◌≡◌, ℕ, zero, suc, ◌+◌, ◌<◌, ◌≤◌, ◌==◌, Bool, true, false, cond, List, [], ◌∷◌, ◌++◌, length, refl, sym, ◌∙◌, ap, arith}
use borrow.Author.Tests.{eqb-true, eq-eqb}
use Rattle.std.specs.Map.{keys_of}
use Rattle.std.proofs.lemmas.Bool.{false≢true}
use Rattle.std.proofs.lemmas.List.Sums.{sum_by-cons, sum_by_push}
use Rattle.hashbag_core.specs.Bag.{Bag}
use Rattle.hashbag_core.specs.Occurrences.{count, greatest_total}
use Rattle.hashbag_csv.specs.Quantities.{number_sum, quantity, times}
use Rattle.hashbag_match_lib.specs.Tallies.{zeros_of, IsTallyOf}

-- ---- a line

zero_or_more : (z : Bool) (n : ℕ) → (n == 0) ≡ z → 1 ≤ n + cond z 1 0
zero_or_more true n is = omega arith
zero_or_more false zero is = absurd (false≢true (sym is ∙ eq-eqb 0 0 refl))
zero_or_more false (suc n) is = omega arith

named_once : (b z : Bool) (n : ℕ) → (n == 0) ≡ z → cond {A = ℕ} b 1 0 ≤ cond b n 0 + cond b (cond z 1 0) 0
named_once true z n is = zero_or_more z n is
named_once false z n is = omega arith

not_named : (b : Bool) (n z : ℕ) → cond {A = ℕ} b 1 0 ≡ 0 → cond b n 0 + cond b z 0 ≡ 0
not_named true n z h = absurd (omega (arith, h))
not_named false n z h = refl

nothing_counted : (b : Bool) (n : ℕ) → n ≡ 0 → cond b n 0 ≡ 0
nothing_counted true n none = none
nothing_counted false n none = refl

zero_noted : (b : Bool) (n : ℕ) → n ≡ 0 → cond {A = ℕ} b (cond (n == 0) 1 0) 0 ≡ cond b 1 0
zero_noted b n none = ap (λ (t : Bool). cond {A = ℕ} b (cond t 1 0) 0) (eq-eqb n 0 none)

none_noted : (b z : Bool) (n : ℕ) → (n == 0) ≡ z → 0 < n → cond {A = ℕ} b (cond z 1 0) 0 ≡ 0
none_noted b true n is some = let none = eqb-true n 0 is in absurd (omega (arith, none, some))
none_noted true false n is some = refl
none_noted false false n is some = refl

module _ {T : Type 0} (eq : T → T → Bool) where
  -- a list names what it has numbers of, or names with the number 0
  times_few : (v : T) (L : List (T × ℕ)) → times eq v L ≤ quantity eq v L + zeros_of eq v L
  times_few v [] = omega arith
  times_few v (e ∷ L) =
      let named : times eq v (e ∷ L) ≡ cond {A = ℕ} (eq v e.0) 1 0 + times eq v L = sum_by-cons (λ x. cond {A = ℕ} (eq v x) 1 0) e.0 (keys_of L) in
      let many : quantity eq v (e ∷ L) ≡ cond (eq v e.0) e.1 0 + quantity eq v L = sum_by-cons (λ (p : T × ℕ). cond (eq v p.0) p.1 0) e L in
      let zeros : zeros_of eq v (e ∷ L) ≡ cond {A = ℕ} (eq v e.0) (cond (e.1 == 0) 1 0) 0 + zeros_of eq v L = sum_by-cons (λ (p : T × ℕ). cond {A = ℕ} (eq v p.0) (cond (p.1 == 0) 1 0) 0) e L in
      let here = named_once (eq v e.0) (e.1 == 0) e.1 refl in
      let later = times_few v L in
      omega (arith, named, many, zeros, here, later)

  times_none : (v : T) (L : List (T × ℕ)) → times eq v L ≡ 0 → quantity eq v L + zeros_of eq v L ≡ 0
  times_none v [] none = refl
  times_none v (e ∷ L) none =
      let named : times eq v (e ∷ L) ≡ cond {A = ℕ} (eq v e.0) 1 0 + times eq v L = sum_by-cons (λ x. cond {A = ℕ} (eq v x) 1 0) e.0 (keys_of L) in
      let many : quantity eq v (e ∷ L) ≡ cond (eq v e.0) e.1 0 + quantity eq v L = sum_by-cons (λ (p : T × ℕ). cond (eq v p.0) p.1 0) e L in
      let zeros : zeros_of eq v (e ∷ L) ≡ cond {A = ℕ} (eq v e.0) (cond (e.1 == 0) 1 0) 0 + zeros_of eq v L = sum_by-cons (λ (p : T × ℕ). cond {A = ℕ} (eq v p.0) (cond (p.1 == 0) 1 0) 0) e L in
      let not_here : cond {A = ℕ} (eq v e.0) 1 0 ≡ 0 = omega (arith, named, none) in
      let not_later : times eq v L ≡ 0 = omega (arith, named, none) in
      let here = not_named (eq v e.0) e.1 (cond (e.1 == 0) 1 0) not_here in
      let later = times_none v L not_later in
      omega (arith, many, zeros, here, later)

  -- ---- one line more

  module _ (L : List (T × ℕ)) (x : T) (n : ℕ) where
    longer_quantity : (v : T) → quantity eq v (L ++ (x, n) ∷ []) ≡ quantity eq v L + cond (eq v x) n 0
    longer_quantity v = sum_by_push (λ (p : T × ℕ). cond (eq v p.0) p.1 0) L (x, n)

    longer_zeros : (v : T) → zeros_of eq v (L ++ (x, n) ∷ []) ≡ zeros_of eq v L + cond {A = ℕ} (eq v x) (cond (n == 0) 1 0) 0
    longer_zeros v = sum_by_push (λ (p : T × ℕ). cond {A = ℕ} (eq v p.0) (cond (p.1 == 0) 1 0) 0) L (x, n)

    longer_numbers : number_sum (L ++ (x, n) ∷ []) ≡ number_sum L + n
    longer_numbers = sum_by_push (λ (p : T × ℕ). p.1) L (x, n)

    pub one_with_number : {S : Type 0} (bag bag' none : Bag T S) → 0 < n → ((v : T) → count eq v bag'.items ≡ count eq v bag.items + cond (eq v x) n 0) → length bag'.items ≡ length bag.items + n → bag'.most ≡ bag.most
        → length bag'.items ≤ bag'.most → IsTallyOf eq L bag none → IsTallyOf eq (L ++ (x, n) ∷ []) bag' none
    one_with_number bag bag' none some more long limit below h = record {
      counts = λ v. more v ∙ ap (λ (k : ℕ). k + cond (eq v x) n 0) (h.counts v) ∙ sym (longer_quantity v);
      zeros = λ v.
          let was = h.zeros v in
          let nothing = none_noted (eq v x) (n == 0) n refl some in
          let sum = longer_zeros v in
          omega (arith, was, nothing, sum);
      len =
          let was = h.len in
          let sum = longer_numbers in
          omega (arith, was, long, sum);
      fits =
          let was = h.len in
          let sum = longer_numbers in
          let most : bag'.most ≡ greatest_total = limit ∙ h.limit in
          omega (arith, was, long, sum, most, below);
      limit = limit ∙ h.limit;
    }

    pub one_with_none : {S : Type 0} (bag none none' : Bag T S) → n ≡ 0 → ((v : T) → count eq v none'.items ≡ count eq v none.items + cond {A = ℕ} (eq v x) 1 0)
        → IsTallyOf eq L bag none → IsTallyOf eq (L ++ (x, n) ∷ []) bag none'
    one_with_none bag none none' is_zero more h = record {
      counts = λ v.
          let was = h.counts v in
          let nothing = nothing_counted (eq v x) n is_zero in
          let sum = longer_quantity v in
          omega (arith, was, nothing, sum);
      zeros = λ v.
          let was = h.zeros v in
          let now = more v in
          let one = zero_noted (eq v x) n is_zero in
          let sum = longer_zeros v in
          omega (arith, was, now, one, sum);
      len =
          let was = h.len in
          let sum = longer_numbers in
          omega (arith, was, is_zero, sum);
      fits =
          let was = h.fits in
          let sum = longer_numbers in
          omega (arith, was, is_zero, sum);
      limit = h.limit;
    }

  -- carried bags are a tally of the same list
  pub same_tally : {S : Type 0} (L : List (T × ℕ)) (bag bag' none none' : Bag T S) → ((v : T) → count eq v bag'.items ≡ count eq v bag.items) → ((v : T) → count eq v none'.items ≡ count eq v none.items)
      → length bag'.items ≡ length bag.items → bag'.most ≡ bag.most → IsTallyOf eq L bag none → IsTallyOf eq L bag' none'
  same_tally L bag bag' none none' same same_zeros long limit h = record {
    counts = λ v. same v ∙ h.counts v;
    zeros = λ v. same_zeros v ∙ h.zeros v;
    len = long ∙ h.len;
    fits = h.fits;
    limit = limit ∙ h.limit;
  }

  -- what two lists name is what their tallies have
  module _ {S : Type 0} (L M : List (T × ℕ)) (a a_zeros b b_zeros : Bag T S) (of_L : IsTallyOf eq L a a_zeros) (of_M : IsTallyOf eq M b b_zeros) (v : T) where
    pub named_in_bags : 0 < times eq v L + times eq v M → 0 < count eq v a.items + count eq v b.items + (count eq v a_zeros.items + count eq v b_zeros.items)
    named_in_bags some =
        let in_L = times_few v L in
        let in_M = times_few v M in
        let a_is = of_L.counts v in
        let b_is = of_M.counts v in
        let c_is = of_L.zeros v in
        let d_is = of_M.zeros v in
        omega (arith, some, in_L, in_M, a_is, b_is, c_is, d_is)

    named_at : (k : ℕ) → times eq v L + times eq v M ≡ k → 0 < count eq v a.items + count eq v b.items + (count eq v a_zeros.items + count eq v b_zeros.items) → 0 < times eq v L + times eq v M
    named_at (suc k) is some = omega (arith, is)
    named_at zero is some =
        let in_L = times_none v L (omega (arith, is)) in
        let in_M = times_none v M (omega (arith, is)) in
        let a_is = of_L.counts v in
        let b_is = of_M.counts v in
        let c_is = of_L.zeros v in
        let d_is = of_M.zeros v in
        absurd (omega (arith, some, in_L, in_M, a_is, b_is, c_is, d_is))

    pub named_in_lists : 0 < count eq v a.items + count eq v b.items + (count eq v a_zeros.items + count eq v b_zeros.items) → 0 < times eq v L + times eq v M
    named_in_lists some = named_at (times eq v L + times eq v M) refl some
