-- What bits tell of places.
use Rattle.std.proofs.Common.{◌≡◌, ℕ, zero, suc, min, bit_and, ◌+◌, ◌-◌, ◌/◌, ◌%◌, ◌^◌, ◌<◌, ◌≤◌, ◌&&◌, Bool, true, false, cond, not, eqb, ltb, List, length, get_or, map, refl, sym, ap, subst, ◌∙◌, inl, inr, arith, w64}
use Rattle.std.proofs.Math.Nat.{min-eq_left, min-zero, pow-succ'}
use Rattle.std.proofs.lemmas.Bool.{cases_lt, ltb-true, lt-ltb, le-ltb, leb-true, lt-leb, le-leb, and_parts, ne_eqb, eq-eqb}
use Rattle.std.proofs.lemmas.List.{get_or-map, get_or_past, length-map}
use lib.Count.{count_leading_zeros}
use Rattle.std.proofs.lemmas.Nat.{leading_top}
use Rattle.std.proofs.lemmas.Nat.Bits.{bit_at-zero, bit_at-trailing_zeros, bit_at-suc, bit_at_lowest, bit_at-lt, bit_at_and, bit_at_ones, bit_at_ones_above}
use Rattle.std.proofs.lemmas.Simd.{length-chunk, get_or-chunk, bit_mask_l}
use Rattle.std.specs.Int.{bit_at, trailing_zeros}
use Rattle.std.specs.Simd.Lanes.{chunk, mask_l}
use Rattle.std.specs.Slice.Scan.{IsFirstPlace, HoldsNowhere}
use Rattle.hashbag_slots.specs.Group.{IsMaskOf, from_place_on}

pub tells_mask : (q : ℕ → Bool) (ts : List ℕ) (from bits : ℕ) → from + 16 ≤ length ts → bits ≡ mask_l (map q (chunk from 16 ts)) → IsMaskOf (λ k. q (get_or ts k 0)) from (from + 16) bits
tells_mask q ts from bits room is i =
    let cs = chunk from 16 ts in
    let long = length-chunk from 16 ts room in
    let lanes = length-map cs q in
    ap (λ n. bit_at n i) is ∙ bit_mask_l (map q cs) i ∙ elim (cases_lt i 16) [
      | inl lt ↦
          (ap (λ b. cond b 1 0) (get_or-map q cs i 0 false (omega arith) ∙ ap q (get_or-chunk from 16 ts i 0 lt)))
          ∙ sym (ap (λ b. cond b (cond (q (get_or ts (from + i) 0)) 1 0) 0) (lt-ltb (from + i) (from + 16) (omega arith)))
      | inr ge ↦
          (ap (λ b. cond b 1 0) (get_or_past (map q cs) i false (omega arith)))
          ∙ sym (ap (λ b. cond b (cond (q (get_or ts (from + i) 0)) 1 0) 0) (le-ltb (from + i) (from + 16) (omega arith)))
    ]

-- one less than an even number, and than an odd one
half_even : (n : ℕ) → 0 < n → n % 2 ≡ 0 → (n - 1) / 2 ≡ n / 2 - 1
half_even n some even = omega arith

half_odd : (n : ℕ) → n % 2 ≡ 1 → (n - 1) / 2 ≡ n / 2
half_odd n odd = omega arith

-- one less than a number, at its lowest bit, above it and below it
less_at : (n t : ℕ) → 0 < n → bit_at n t ≡ 1 → ((i : ℕ) → i < t → bit_at n i ≡ 0) → bit_at (n - 1) t ≡ 0
less_at n zero some one low = let odd : n % 2 ≡ 1 = sym (bit_at_lowest n) ∙ one in bit_at_lowest (n - 1) ∙ omega arith
less_at n (suc t) some one low =
    let even : n % 2 ≡ 0 = sym (bit_at_lowest n) ∙ low 0 (omega arith) in
    bit_at-suc (n - 1) t ∙ ap (λ m. bit_at m t) (half_even n some even)
    ∙ less_at (n / 2) t (omega arith) (sym (bit_at-suc n t) ∙ one) (λ i l. sym (bit_at-suc n i) ∙ low (suc i) (omega arith))

less_above : (n t i : ℕ) → 0 < n → bit_at n t ≡ 1 → ((j : ℕ) → j < t → bit_at n j ≡ 0) → t < i → bit_at (n - 1) i ≡ bit_at n i
less_above n t zero some one low above = absurd (omega arith)
less_above n zero (suc i) some one low above =
    let odd : n % 2 ≡ 1 = sym (bit_at_lowest n) ∙ one in bit_at-suc (n - 1) i ∙ ap (λ m. bit_at m i) (half_odd n odd) ∙ sym (bit_at-suc n i)
less_above n (suc t) (suc i) some one low above =
    let even : n % 2 ≡ 0 = sym (bit_at_lowest n) ∙ low 0 (omega arith) in
    bit_at-suc (n - 1) i ∙ ap (λ m. bit_at m i) (half_even n some even)
    ∙ less_above (n / 2) t i (omega arith) (sym (bit_at-suc n t) ∙ one) (λ j l. sym (bit_at-suc n j) ∙ low (suc j) (omega arith)) (omega arith)
    ∙ sym (bit_at-suc n i)

less_below : (n t i : ℕ) → 0 < n → bit_at n t ≡ 1 → ((j : ℕ) → j < t → bit_at n j ≡ 0) → i < t → bit_at (n - 1) i ≡ 1
less_below n zero i some one low under = absurd (omega arith)
less_below n (suc t) zero some one low under =
    let even : n % 2 ≡ 0 = sym (bit_at_lowest n) ∙ low 0 (omega arith) in bit_at_lowest (n - 1) ∙ omega arith
less_below n (suc t) (suc i) some one low under =
    let even : n % 2 ≡ 0 = sym (bit_at_lowest n) ∙ low 0 (omega arith) in
    bit_at-suc (n - 1) i ∙ ap (λ m. bit_at m i) (half_even n some even)
    ∙ less_below (n / 2) t i (omega arith) (sym (bit_at-suc n t) ∙ one) (λ j l. sym (bit_at-suc n j) ∙ low (suc j) (omega arith)) (omega arith)

pub no_bit : (b : Bool) → ◌≡◌ {A = ℕ} (cond b 0 0) 0
no_bit true = refl
no_bit false = refl

-- a test from a place on
pub from_place_on-behind : (test : ℕ → Bool) (at p : ℕ) → at ≤ p → from_place_on test at p ≡ test p
from_place_on-behind test at p le = ap (λ b. b && test p) (le-leb at p le)

pub from_place_on-before : (test : ℕ → Bool) (at p : ℕ) → p < at → from_place_on test at p ≡ false
from_place_on-before test at p lt = ap (λ b. b && test p) (lt-leb at p lt)

from_place_on-twice : (test : ℕ → Bool) (at to p : ℕ) → at ≤ to → from_place_on (from_place_on test at) to p ≡ from_place_on test to p
from_place_on-twice test at to p le = elim (cases_lt p to) [
  | inl lt ↦ from_place_on-before (from_place_on test at) to p lt ∙ sym (from_place_on-before test to p lt)
  | inr ge ↦ from_place_on-behind (from_place_on test at) to p ge ∙ from_place_on-behind test at p (omega arith) ∙ sym (from_place_on-behind test to p ge)
]

-- another test that says the same of the places from `from` on
pub tells_same : (test other : ℕ → Bool) (from until bits : ℕ) → ((p : ℕ) → from ≤ p → test p ≡ other p) → IsMaskOf test from until bits → IsMaskOf other from until bits
tells_same test other from until bits same tells i = tells i ∙ ap (λ b. cond (ltb (from + i) until) (cond b 1 0) 0) (same (from + i) (omega arith))

-- of places that were just looked at
pub tells_fresh : (test : ℕ → Bool) (from until bits : ℕ) → IsMaskOf test from until bits → IsMaskOf (from_place_on test from) from until bits
tells_fresh test from until bits = tells_same test (from_place_on test from) from until bits (λ p le. sym (from_place_on-behind test from p le))

both_set : (b c : Bool) → ◌≡◌ {A = ℕ} (cond b (cond c 1 0) 0) 1 → (b ≡ true) × (c ≡ true)
both_set true true h = (refl, refl)
both_set true false h = absurd (omega arith)
both_set false c h = absurd (omega arith)

not_set : (b c : Bool) → ◌≡◌ {A = ℕ} (cond b (cond c 1 0) 0) 0 → b ≡ true → c ≡ false
not_set true true h e = absurd (omega arith)
not_set true false h e = refl
not_set false c h e = absurd (cc)

module _ (test : ℕ → Bool) (from until bits : ℕ) (tells : IsMaskOf test from until bits) where
  -- a bit that is set
  pub told : (i : ℕ) → bit_at bits i ≡ 1 → (from + i < until) × (test (from + i) ≡ true)
  told i one = let b = both_set (ltb (from + i) until) (test (from + i)) (sym (tells i) ∙ one) in (ltb-true _ _ b.0, b.1)

  -- a bit that is not set
  pub untold : (i : ℕ) → bit_at bits i ≡ 0 → from + i < until → test (from + i) ≡ false
  untold i unset below = not_set (ltb (from + i) until) (test (from + i)) (sym (tells i) ∙ unset) (lt-ltb _ _ below)

  pub untold_at : (i p : ℕ) → from + i ≡ p → bit_at bits i ≡ 0 → p < until → test p ≡ false
  untold_at i p e unset below = sym (ap test e) ∙ untold i unset (omega arith)

  -- the bits with the lowest cleared
  pub tells_cleared : (t : ℕ) → 0 < bits → bit_at bits t ≡ 1 → ((i : ℕ) → i < t → bit_at bits i ≡ 0)
      → IsMaskOf (from_place_on test (from + t + 1)) from until (bit_and bits (bits - 1))
  tells_cleared t some one low i =
      let here : Bool = ltb (from + i) until in
      let behind : Bool → ℕ = λ b. cond here (cond (b && test (from + i)) 1 0) 0 in
      bit_at_and bits (bits - 1) i ∙ elim (cases_lt t i) [
        | inl above ↦
            ap (min (bit_at bits i)) (less_above bits t i some one low above) ∙ min-eq_left (omega arith) ∙ tells i
            ∙ sym (ap behind (le-leb (from + t + 1) (from + i) (omega arith)))
        | inr upto ↦
            elim (cases_lt i t) [
              | inl under ↦ ap (λ b. min b (bit_at (bits - 1) i)) (low i under) ∙ omega arith
              | inr beyond ↦
                  let same : i ≡ t = omega arith in
                  ap (min (bit_at bits i)) (ap (bit_at (bits - 1)) same ∙ less_at bits t some one low) ∙ min-zero (bit_at bits i)
            ] ∙ sym (ap behind (lt-leb (from + t + 1) (from + i) (omega arith)) ∙ no_bit here)
      ]

module _ (test : ℕ → Bool) (from at until bits : ℕ) (tells : IsMaskOf (from_place_on test at) from until bits) where
  -- no bit is set
  pub none_told : from ≤ at → bits ≡ 0 → HoldsNowhere test at until
  none_told le none p a b =
      let unset : bit_at bits (p - from) ≡ 0 = ap (λ n. bit_at n (p - from)) none ∙ bit_at-zero (p - from) in
      sym (from_place_on-behind test at p a) ∙ untold_at (from_place_on test at) from until bits tells (p - from) p (omega arith) unset b

  module _ (t : ℕ) (one : bit_at bits t ≡ 1) (low : (i : ℕ) → i < t → bit_at bits i ≡ 0) where
    pub first_below : from + t < until
    first_below = (told (from_place_on test at) from until bits tells t one).0

    first_passes : (at ≤ from + t) × (test (from + t) ≡ true)
    first_passes = let both = and_parts _ _ (told (from_place_on test at) from until bits tells t one).1 in (leb-true at (from + t) both.0, both.1)

    -- the lowest bit is that of the first place
    pub first_told : from ≤ at → IsFirstPlace test at until (from + t)
    first_told le =
        let below = first_below in record {
          low = first_passes.0;
          high = omega arith;
          before = λ p a b. sym (from_place_on-behind test at p a) ∙ untold_at (from_place_on test at) from until bits tells (p - from) p (omega arith) (low (p - from) (omega arith)) (omega arith);
          hit = λ _. first_passes.1;
        }

    pub rest_told : 0 < bits → IsMaskOf (from_place_on test (from + t + 1)) from until (bit_and bits (bits - 1))
    rest_told some =
        let passed = first_passes.0 in
        tells_same (from_place_on (from_place_on test at) (from + t + 1)) (from_place_on test (from + t + 1)) from until (bit_and bits (bits - 1))
        (λ p _. from_place_on-twice test at (from + t + 1) p (omega arith)) (tells_cleared (from_place_on test at) from until bits tells t some one low)

-- one of the places passes the test
pub some_told : (test : ℕ → Bool) (from until bits : ℕ) → IsMaskOf test from until bits → 0 < bits → bits < 2 ^ 64 → (i : ℕ) × (from + i < until) × (test (from + i) ≡ true)
some_told test from until bits tells some fits =
    let t = trailing_zeros w64 bits in let lowest = bit_at-trailing_zeros w64 bits some fits in let is = told test from until bits tells t lowest.1 in (t, is.0, is.1)

-- the greatest bit of a number is set
top_bit : (j n : ℕ) → 2 ^ j ≤ n → n < 2 ^ suc j → bit_at n j ≡ 1
top_bit zero n low high = bit_at_lowest n ∙ omega arith
top_bit (suc j) n low high =
    let twice = pow-succ' 2 j in let more = pow-succ' 2 (suc j) in
    bit_at-suc n j ∙ top_bit j (n / 2) (omega arith) (omega arith)

-- the last of the places that pass the test
pub last_told : (test : ℕ → Bool) (from until bits : ℕ) → IsMaskOf test from until bits → 0 < bits → bits < 2 ^ 64 → (i : ℕ) × (count_leading_zeros 64 bits + suc i ≡ 64) × (from + i < until) × (test (from + i) ≡ true)
last_told test from until bits tells some fits =
    let top = leading_top 64 bits some fits in let is = told test from until bits tells top.0 (top_bit top.0 bits top.2 top.3) in (top.0, top.1, is.0, is.1)

-- the bits before the first place of which other bits tell, and of which these don't
module _ (test stop : ℕ → Bool) (from until bits : ℕ) (tells : IsMaskOf test from until bits) (apart : (p : ℕ) → test p ≡ true → stop p ≡ false) where
  abbrev shown : ℕ → Bool → ℕ
  shown i b = cond b (cond (test (from + i)) 1 0) 0

  never_both : (stops : ℕ) → IsMaskOf stop from until stops → (i : ℕ) → min (bit_at bits i) (bit_at stops i) ≡ 0
  never_both stops ends i =
      let small = bit_at-lt bits i in
      elim (cases_lt (bit_at bits i) 1) [
        | inl unset ↦ omega arith
        | inr set ↦
            let is = told test from until bits tells i (omega arith) in
            ap (min (bit_at bits i)) (ends i ∙ ap (λ b. cond (ltb (from + i) until) (cond b 1 0) 0) (apart (from + i) is.1) ∙ no_bit (ltb (from + i) until)) ∙ min-zero (bit_at bits i)
      ]

  tells_before : (stops t : ℕ) → IsMaskOf stop from until stops → 0 < stops → bit_at stops t ≡ 1 → ((i : ℕ) → i < t → bit_at stops i ≡ 0) → IsMaskOf test from (from + t) (bit_and bits (stops - 1))
  tells_before stops t ends some one low i =
      let within = (told stop from until stops ends t one).0 in
      bit_at_and bits (stops - 1) i ∙ elim (cases_lt i t) [
        | inl under ↦
            let small = bit_at-lt bits i in
            ap (min (bit_at bits i)) (less_below stops t i some one low under) ∙ min-eq_left (omega arith) ∙ tells i
            ∙ ap (shown i) (lt-ltb (from + i) until (omega arith) ∙ sym (lt-ltb (from + i) (from + t) (omega arith)))
        | inr beyond ↦
            elim (cases_lt t i) [
              | inl above ↦ ap (min (bit_at bits i)) (less_above stops t i some one low above) ∙ never_both stops ends i
              | inr here ↦
                  let same : i ≡ t = omega arith in
                  ap (min (bit_at bits i)) (ap (bit_at (stops - 1)) same ∙ less_at stops t some one low) ∙ min-zero (bit_at bits i)
            ] ∙ sym (ap (shown i) (le-ltb (from + i) (from + t) (omega arith)))
      ]

  tells_all : until ≤ from + 64 → IsMaskOf test from until (bit_and bits (2 ^ 64 - 1))
  tells_all near i =
      bit_at_and bits (2 ^ 64 - 1) i ∙ elim (cases_lt i 64) [
        | inl lt ↦ let small = bit_at-lt bits i in ap (min (bit_at bits i)) (bit_at_ones 64 i lt) ∙ min-eq_left (omega arith) ∙ tells i
        | inr ge ↦ ap (min (bit_at bits i)) (bit_at_ones_above 64 i ge) ∙ min-zero (bit_at bits i) ∙ sym (ap (shown i) (le-ltb (from + i) until (omega arith)))
      ]

  pub before_stop : (stops : ℕ) → IsMaskOf stop from until stops → stops < 2 ^ 64 → from ≤ until → until ≤ from + 64
      → (x : ℕ) × IsFirstPlace stop from until x × IsMaskOf test from x (bit_and bits ((stops + 18446744073709551615) % 18446744073709551616)) × (not (eqb stops 0) ≡ ltb x until)
  before_stop stops ends fits le near =
      let fresh = tells_fresh stop from until stops ends in
      elim (cases_lt 0 stops) [
        | inl some ↦
            let t = trailing_zeros w64 stops in let lowest = bit_at-trailing_zeros w64 stops some fits in
            let less : stops - 1 ≡ (stops + 18446744073709551615) % 18446744073709551616 = omega arith in (
              from + t,
              first_told stop from from until stops fresh t lowest.1 lowest.2 (omega arith),
              subst (λ n. IsMaskOf test from (from + t) (bit_and bits n)) less (tells_before stops t ends some lowest.1 lowest.2),
              ap not (ne_eqb stops 0 (λ none. absurd (omega arith))) ∙ sym (lt-ltb (from + t) until (first_below stop from from until stops fresh t lowest.1 lowest.2)),
            )
        | inr none ↦
            let zero : stops ≡ 0 = omega arith in
            let ones : 2 ^ 64 - 1 ≡ (stops + 18446744073709551615) % 18446744073709551616 = omega arith in (
              until,
              record {
                low = le;
                high = omega arith;
                before = none_told stop from from until stops fresh (omega arith) zero;
                hit = λ lt. absurd (omega arith);
              },
              subst (λ n. IsMaskOf test from until (bit_and bits n)) ones (tells_all near),
              ap not (eq-eqb stops 0 zero) ∙ sym (le-ltb until until (omega arith)),
            )
      ]
