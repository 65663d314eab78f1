-- Texts of digits, of parts and of groups, and what is wrong with a text that isn't read as a number.
use Rattle.std.proofs.Common.{◌≡◌, ℕ, ◌+◌, ◌<◌, ◌≤◌, ◌==◌, ◌&&◌, ◌↔◌, Bool, true, false, cond, List, [], ◌∷◌, ◌++◌, length, get_or, drop, Option, Some, None, MatchOption, refl, sym, ◌∙◌, ap, subst, arith, inl, inr}
use Rattle.std.specs.Borrow.{Bor}
use Rattle.std.specs.Char.{digit_value, is_ascii_digit}
use Rattle.std.specs.List.{list_all, position_or_len, before_first, after_first}
use Rattle.std.specs.Str.Parse.{AllDigits, IsNumeral}
use Rattle.std.proofs.lemmas.Bool.{and_from, and_parts, cases_lt, eqb-true, le-leb, le-ltb, leb-true, lt-ltb}
use Rattle.std.proofs.lemmas.List.{at_drop_all, at_drop_more, length-append, take_all}
use Rattle.std.proofs.lemmas.List.Sums.{passes_at_first, split_at_first}
use Rattle.std.proofs.lemmas.Str.Parse.{digit_from_value}
use Rattle.std.proofs.lemmas.Str.Pattern.{IsSplitOnceResult, split_once_first}
use Rattle.hashbag_csv.specs.Decimals.{IsDecimal, part_of, whole_of}
use Rattle.hashbag_csv.specs.Faults.{HasMark, HasParts, IsCutAtMark, is_grouped}

-- ---- digits

digit_below : (c : ℕ) → is_ascii_digit c ≡ true → digit_value c < 10
digit_below c h =
    let parts = and_parts _ _ h in
    let low = leb-true 48 c parts.0 in
    let high = leb-true c 57 parts.1 in
    rw (le-ltb c 48 low) (rw (lt-ltb c 58 (omega (arith, high))) (omega (arith, low, high)))

digit_test : (c : ℕ) → digit_value c < 10 → is_ascii_digit c ≡ true
digit_test c h = let range = digit_from_value c h in and_from _ _ (le-leb 48 c range.0) (le-leb c 57 range.1)

digits_to : (ds : List ℕ) → list_all is_ascii_digit ds ≡ true → AllDigits 10 ds
digits_to [] h = tt
digits_to (c ∷ cs) h = let parts = and_parts (is_ascii_digit c) (list_all is_ascii_digit cs) h in (digit_below c parts.0, digits_to cs parts.1)

digits_from : (ds : List ℕ) → AllDigits 10 ds → list_all is_ascii_digit ds ≡ true
digits_from [] h = refl
digits_from (c ∷ cs) h = and_from _ _ (digit_test c h.0) (digits_from cs h.1)

-- a text is a number if it has a byte and each is a digit
pub numeral_is : (b : Bool) (ds : List ℕ) → 0 < length ds → b ≡ list_all is_ascii_digit ds → (b ≡ true) ↔ IsNumeral 10 ds
numeral_is b ds some is = (λ t. (some, digits_to ds (sym is ∙ t)), λ n. is ∙ digits_from ds n.1)

-- ---- a text that is cut at its first mark

module _ (mark : ℕ) (low : mark < 48) where
  cut_at : (s : List ℕ) (r : Option (Bor (List ℕ) × Bor (List ℕ)))
      → MatchOption r (position_or_len (λ b. b == mark) s ≡ length s) (λ x. (position_or_len (λ b. b == mark) s < length s) × (x.0.now ≡ before_first (λ b. b == mark) s) × (x.1.now ≡ after_first (λ b. b == mark) s))
      → IsCutAtMark mark s r
  unfolding HasMark
  cut_at s None none = λ has.
      let all : whole_of mark s ≡ s = take_all (position_or_len (λ b. b == mark) s) s (omega (arith, none)) in
      let long : length s ≡ length (whole_of mark s) + length (mark ∷ part_of mark s) = ap length has ∙ length-append (whole_of mark s) (mark ∷ part_of mark s) in
      let same : length (whole_of mark s) ≡ length s = ap length all in
      absurd (omega (arith, long, same))
  cut_at s (Some x) h =
      let is : get_or s (position_or_len (λ b. b == mark) s) 0 ≡ mark = eqb-true _ _ (passes_at_first (λ b. b == mark) s 0 h.0) in
      (split_at_first (λ b. b == mark) s 0 h.0 ∙ ap (λ (c : ℕ). whole_of mark s ++ c ∷ part_of mark s) is, h.1, h.2)

  pub cut_is : (c : ℕ) (s : List ℕ) (r : Option (Bor (List ℕ) × Bor (List ℕ))) → c ≡ mark → IsSplitOnceResult c s r
      → IsCutAtMark mark s r
  cut_is c s r is cut = cut_at s r (split_once_first mark s r (subst (λ (k : ℕ). IsSplitOnceResult k s r) is cut) (omega (arith, low)))

-- ---- groups of digits

-- what follows a byte, and the byte itself
pub grouped_step : (mark : ℕ) (after : Bool) (bs : List ℕ) (i : ℕ) → i < length bs
    → is_grouped mark after (drop i bs) ≡ cond (is_ascii_digit (get_or bs i 0)) (is_grouped mark true (drop (i + 1) bs)) (cond (after && (get_or bs i 0 == mark)) (is_grouped mark false (drop (i + 1) bs)) false)
grouped_step mark after bs i below = at_drop_more (is_grouped mark after) bs i 0 below

pub grouped_end : (mark : ℕ) (after : Bool) (bs : List ℕ) (i : ℕ) → length bs ≤ i → is_grouped mark after (drop i bs) ≡ after
grouped_end mark after bs i all = at_drop_all (is_grouped mark after) bs i all

-- ---- a text that is a number past the greatest

-- with a mark too
pub parts_decimal : (mark D : ℕ) (s : List ℕ) → HasParts mark s → length (part_of mark s) ≤ D → IsDecimal mark D s
unfolding HasParts HasMark
parts_decimal mark D s h few = inr (h.0, (h.1, h.2, few))

-- more units than are read
pub past : (most : ℕ) (A : Type 0) (n : ℕ) → A → ¬ (A × (n ≤ most)) → most < n
past most A n a h = elim (cases_lt most n) [ inl more ↦ more | inr few ↦ absurd (h (a, few)) ]
