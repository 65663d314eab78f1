-- Numbers with decimals: their texts, and the units that they are.
use Rattle.std.proofs.Common.{◌≡◌, ℕ, zero, suc, ◌+◌, ◌-◌, ◌*◌, ◌/◌, ◌%◌, ◌^◌, ◌<◌, ◌≤◌, ◌==◌, Bool, true, false, List, [], ◌∷◌, ◌++◌, length, get_or, drop, replicate, Option, Some, None, MatchOption, refl, sym, ◌∙◌, ap, subst, arith, inl, inr}
use borrow.Author.Tests.{eq-eqb, eqb-true}
use Rattle.std.specs.Borrow.{Bor}
use Rattle.std.specs.Fmt.{decimal}
use Rattle.std.specs.List.{position_or_len}
use Rattle.std.specs.Str.Parse.{IsNumeral, AllDigits, digits_value}
use Rattle.std.proofs.Math.Nat.{div-add-mod', mod-lt, div-one, mul-one, div-le_self, le-mul_of_pos_right, one-le-pow}
use Rattle.std.proofs.lemmas.Bool.{cond-false, cond-true, ne_eqb}
use Rattle.std.proofs.lemmas.Bool.Decides.{nat_tests}
use Rattle.std.proofs.lemmas.Fmt.{decimal_is_IsNumeral, length-decimal-le}
use Rattle.std.proofs.lemmas.List.{append_assoc, drop_all, drop_at, drop-drop, get_or_append_left, get_or_at, length-append, length-replicate, take_all, take_at}
use Rattle.std.proofs.lemmas.List.Sums.{passes_at_first, position_or_len_is, split_at_first}
use Rattle.std.proofs.lemmas.Str.Pattern.{IsSplitOnceResult, split_once_first}
use Rattle.std.proofs.lemmas.Str.Parse.{digit_at}
use Rattle.hashbag_csv.specs.declared.scale.Mark.{Mark}
use Rattle.hashbag_csv.specs.declared.scale.Mark.TheVariants.{Point, Comma}
use Rattle.hashbag_csv.specs.Marks.{code_of}
use Rattle.hashbag_csv.specs.Decimals.{ArePartsOf, IsDecimal, decimal_text, padded_digits, units, units_of, whole_of, part_of}

-- a mark is before the digits
pub code_low : (m : Mark) → code_of m < 48
code_low Point = omega arith
code_low Comma = omega arith

module _ (mark : ℕ) (low : mark < 48) where
  abbrev is_mark : ℕ → Bool
  is_mark c = c == mark

  -- a digit is no mark
  no_mark : (ds : List ℕ) (k : ℕ) → AllDigits 10 ds → k < length ds → (get_or ds k 0 == mark) ≡ false
  no_mark ds k h below = let r = digit_at ds k h below in grind (arith, nat_tests)

  at_end : (ds : List ℕ) → AllDigits 10 ds → position_or_len is_mark ds ≡ length ds
  at_end ds h = position_or_len_is is_mark ds (length ds) 0 (omega arith) (λ k below. no_mark ds k h below) (λ never. absurd (omega (arith, never)))

  at_mark : (ds rest : List ℕ) → AllDigits 10 ds → position_or_len is_mark (ds ++ mark ∷ rest) ≡ length ds
  at_mark ds rest h = position_or_len_is is_mark (ds ++ mark ∷ rest) (length ds) 0 (let n = length-append ds (mark ∷ rest) in omega (arith, n))
      (λ k below. subst (λ (x : ℕ). (x == mark) ≡ false) (sym (get_or_append_left ds (mark ∷ rest) 0 k below)) (no_mark ds k h below))
      (λ _. subst (λ (x : ℕ). (x == mark) ≡ true) (sym (get_or_at ds mark rest 0 (length ds) refl)) (eq-eqb mark mark refl))

  -- ---- the parts of a text that is written

  whole_alone : (ds : List ℕ) → position_or_len is_mark ds ≡ length ds → whole_of mark ds ≡ ds
  whole_alone ds none = take_all (position_or_len is_mark ds) ds (omega (arith, none))

  part_alone : (ds : List ℕ) → position_or_len is_mark ds ≡ length ds → part_of mark ds ≡ []
  part_alone ds none = drop_all (position_or_len is_mark ds + 1) ds (omega (arith, none))

  whole_before : (ds rest : List ℕ) → AllDigits 10 ds → whole_of mark (ds ++ mark ∷ rest) ≡ ds
  whole_before ds rest h = take_at ds (mark ∷ rest) (position_or_len is_mark (ds ++ mark ∷ rest)) (sym (at_mark ds rest h))

  part_after : (ds rest : List ℕ) → AllDigits 10 ds → part_of mark (ds ++ mark ∷ rest) ≡ rest
  part_after ds rest h =
      let n = position_or_len is_mark (ds ++ mark ∷ rest) in
      sym (drop-drop 1 n (ds ++ mark ∷ rest)) ∙ ap (drop 1) (drop_at ds (mark ∷ rest) n (sym (at_mark ds rest h)))

  units_alone : (D : ℕ) (ds : List ℕ) → position_or_len is_mark ds ≡ length ds → units mark D ds ≡ digits_value 10 ds * 10 ^ D
  units_alone D ds none =
      let parts : units mark D ds ≡ units_of D ds [] = λ i. units_of D (whole_alone ds none i) (part_alone ds none i) in
      omega (arith, parts)

  -- a whole number as a text
  pub alone_is : (D n : ℕ) (ds : List ℕ) → IsNumeral 10 ds → digits_value 10 ds * 10 ^ D ≡ n → IsDecimal mark D ds × (units mark D ds ≡ n)
  alone_is D n ds h value = (inl h, units_alone D ds (at_end ds h.1) ∙ value)

  -- a number with decimals as a text
  pub joined_is : (D n : ℕ) (ds rest : List ℕ) → ArePartsOf D ds rest → units_of D ds rest ≡ n → IsDecimal mark D (ds ++ mark ∷ rest) × (units mark D (ds ++ mark ∷ rest) ≡ n)
  joined_is D n ds rest h value =
      let whole = whole_before ds rest h.0.1 in
      let part = part_after ds rest h.0.1 in (
        inr (λ i. sym whole i ++ mark ∷ sym part i, subst (λ (p : List ℕ). ArePartsOf D (whole_of mark (ds ++ mark ∷ rest)) p) (sym part) (subst (λ (w : List ℕ). ArePartsOf D w rest) (sym whole) h)),
        (λ i. units_of D (whole i) (part i)) ∙ value,
      )

  -- ---- what is read of a text

  abbrev Reads : ℕ → List ℕ → Option ℕ → Type 0
  Reads D s r = MatchOption r (¬ (IsDecimal mark D s × (units mark D s ≤ 2 ^ 64 - 1))) (λ n. IsDecimal mark D s × (units mark D s ≡ n))

  numeral_has_none : (s : List ℕ) → position_or_len is_mark s < length s → ¬ (IsNumeral 10 s)
  numeral_has_none s inside h = let n = at_end s h.1 in absurd (omega (arith, n, inside))

  -- a text with a mark
  pub read_joined : (D : ℕ) (s w p : List ℕ) (r : Option ℕ) → position_or_len is_mark s < length s → w ≡ whole_of mark s → p ≡ part_of mark s
      → MatchOption r (¬ (ArePartsOf D w p × (units_of D w p ≤ 2 ^ 64 - 1))) (λ n. ArePartsOf D w p × (units_of D w p ≡ n)) → Reads D s r
  read_joined D s w p (Some n) inside whole part h =
      let split = split_at_first is_mark s 0 inside in
      let is : get_or s (position_or_len is_mark s) 0 ≡ mark = eqb-true _ _ (passes_at_first is_mark s 0 inside) in
      let parts = subst (λ (q : List ℕ). ArePartsOf D (whole_of mark s) q) part (subst (λ (q : List ℕ). ArePartsOf D q p) whole h.0) in
      (inr (split ∙ ap (λ (c : ℕ). whole_of mark s ++ c ∷ part_of mark s) is, parts), (λ i. units_of D (sym whole i) (sym part i)) ∙ h.1)
  read_joined D s w p None inside whole part h = λ q. elim q.0 [
    | inl numeral ↦ numeral_has_none s inside numeral
    | inr cut ↦ h (
      subst (λ (l : List ℕ). ArePartsOf D w l) (sym part) (subst (λ (l : List ℕ). ArePartsOf D l (part_of mark s)) (sym whole) cut.1),
      subst (λ (m : ℕ). m ≤ 2 ^ 64 - 1) (λ i. units_of D (sym whole i) (sym part i)) q.1,
    )
  ]

  -- a text that `split_once` cuts at its first mark
  pub read_cut : (D c : ℕ) (s : List ℕ) (x : Bor (List ℕ) × Bor (List ℕ)) (r : Option ℕ) → c ≡ mark → IsSplitOnceResult c s (Some x)
      → MatchOption r (¬ (ArePartsOf D x.0.now x.1.now × (units_of D x.0.now x.1.now ≤ 2 ^ 64 - 1))) (λ n. ArePartsOf D x.0.now x.1.now × (units_of D x.0.now x.1.now ≡ n)) → Reads D s r
  read_cut D c s x r is cut h =
      let first = split_once_first mark s (Some x) (subst (λ (k : ℕ). IsSplitOnceResult k s (Some x)) is cut) (omega (arith, low)) in
      read_joined D s x.0.now x.1.now r first.0 first.1 first.2 h

-- ---- zeros before digits

pub zeros_digits : (k : ℕ) (ds : List ℕ) → AllDigits 10 ds → AllDigits 10 (replicate k 48 ++ ds)
zeros_digits zero ds h = h
zeros_digits (suc k) ds h = (omega arith, zeros_digits k ds h)

pub zeros_value : (k : ℕ) (ds : List ℕ) → digits_value 10 (replicate k 48 ++ ds) ≡ digits_value 10 ds
zeros_value zero ds = refl
zeros_value (suc k) ds = zeros_value k ds

-- ---- powers of ten

pub unit_some : (D : ℕ) → 0 < 10 ^ D
unit_some D = let some = one-le-pow D 10 (omega arith) in omega (arith, some)

-- a number that doesn't fit has no units that fit
pub none_alone : (D : ℕ) (s : List ℕ) → ¬ (IsNumeral 10 s × (digits_value 10 s ≤ 2 ^ 64 - 1)) → ¬ (IsNumeral 10 s × (digits_value 10 s * 10 ^ D ≤ 2 ^ 64 - 1))
none_alone D s h = λ q. h (q.0, let more = le-mul_of_pos_right {m = 10 ^ D} (digits_value 10 s) (unit_some D) in omega (arith, more, q.1))

-- the parts of what is written
pub parts_value : (D n : ℕ) (w p : List ℕ) → digits_value 10 w ≡ n / 10 ^ D → digits_value 10 p ≡ n % 10 ^ D → length p ≡ D → units_of D w p ≡ n
parts_value D n w p whole part long =
    let sum = div-add-mod' n (10 ^ D) in
    let none : D - length p ≡ 0 = omega (arith, long) in
    let is : units_of D w p ≡ n / 10 ^ D * 10 ^ D + n % 10 ^ D * 10 ^ 0 = λ i. whole i * 10 ^ D + part i * 10 ^ none i in
    omega (arith, is, sum)

-- ---- digits with zeros before them

pub padded_text : (width n k : ℕ) (text zeros ds : List ℕ) → ds ≡ decimal n → zeros ≡ replicate k 48 → k ≡ width - length ds → text ≡ zeros ++ ds → text ≡ padded_digits width n
padded_text width n k text zeros ds is zeros_are missing whole =
    whole ∙ (λ i. (zeros_are ∙ ap (λ m. replicate m 48) missing) i ++ ds) ∙ ap (λ l. replicate (width - length l) 48 ++ l) is

pub padded_is : (width n : ℕ) → 0 < width → n < 10 ^ width → n < 2 ^ 64
    → AllDigits 10 (padded_digits width n) × (length (padded_digits width n) ≡ width) × (digits_value 10 (padded_digits width n) ≡ n)
padded_is width n wide fits small =
    let ds = decimal n in
    let k = width - length ds in
    let numeral = decimal_is_IsNumeral n small in
    let short : length ds ≤ width = length-decimal-le width n wide fits small in
    let long : length (padded_digits width n) ≡ length (replicate k 48) + length ds = length-append (replicate k 48) ds in
    let zeros_long = length-replicate {A = ℕ} k 48 in
    (zeros_digits k ds numeral.0.1, omega (arith, long, zeros_long, short), zeros_value k ds ∙ numeral.1)

-- ---- what is written

pub alone_written : (m : Mark) (D n u : ℕ) (text : List ℕ) → n < 2 ^ 64 → D ≡ 0 → u ≡ 10 ^ D → text ≡ decimal (n / u) → IsDecimal (code_of m) D text × (units (code_of m) D text ≡ n)
alone_written m D n u text small none unit is =
    let one : u ≡ 1 = unit ∙ ap (λ (k : ℕ). 10 ^ k) none in
    let same : text ≡ decimal n = is ∙ ap (λ (k : ℕ). decimal (n / k)) one ∙ ap decimal (div-one n) in
    let numeral = decimal_is_IsNumeral n small in
    let power : 10 ^ D ≡ 1 = sym unit ∙ one in
    alone_is (code_of m) (code_low m) D n text (subst (IsNumeral 10) (sym same) numeral.0) ((λ i. digits_value 10 (same i) * power i) ∙ mul-one (digits_value 10 (decimal n)) ∙ numeral.1)

pub joined_written : (m : Mark) (D n u c : ℕ) (ones text part whole : List ℕ) → n < 2 ^ 64 → 0 < D → u ≡ 10 ^ D → ones ≡ decimal (n / u) → c ≡ code_of m → text ≡ ones ++ c ∷ [] → whole ≡ text ++ part
    → AllDigits 10 part × (length part ≡ D) × (digits_value 10 part ≡ n % u) → IsDecimal (code_of m) D whole × (units (code_of m) D whole ≡ n)
joined_written m D n u c ones text part whole small some unit ones_are mark text_is whole_is part_is =
    let few : n / u ≤ n = div-le_self n u in
    let numeral = decimal_is_IsNumeral (n / u) (omega (arith, few, small)) in
    let is : whole ≡ decimal (n / u) ++ code_of m ∷ part = whole_is ∙ ap (λ (l : List ℕ). l ++ part) (text_is ∙ λ i. ones_are i ++ mark i ∷ []) ∙ append_assoc (decimal (n / u)) (code_of m ∷ []) part in
    let parts : ArePartsOf D (decimal (n / u)) part = (numeral.0, (omega (arith, part_is.1, some), part_is.0), omega (arith, part_is.1)) in
    let value : units_of D (decimal (n / u)) part ≡ n = parts_value D n (decimal (n / u)) part (numeral.1 ∙ ap (λ (k : ℕ). n / k) unit) (part_is.2 ∙ ap (λ (k : ℕ). n % k) unit) part_is.1 in
    let said = joined_is (code_of m) (code_low m) D n (decimal (n / u)) part parts value in
    subst (λ (l : List ℕ). IsDecimal (code_of m) D l × (units (code_of m) D l ≡ n)) (sym is) said

-- the text that is written, without decimals and with decimals

pub alone_text : (m : Mark) (D n u : ℕ) (text : List ℕ) → D ≡ 0 → u ≡ 10 ^ D → text ≡ decimal (n / u) → text ≡ decimal_text (code_of m) D n
alone_text m D n u text none unit is =
    let one : u ≡ 1 = unit ∙ ap (λ (k : ℕ). 10 ^ k) none in
    is ∙ ap (λ (k : ℕ). decimal (n / k)) one ∙ ap decimal (div-one n) ∙ sym (cond-true (D == 0) (decimal n) _ (eq-eqb D 0 none))

pub joined_text : (m : Mark) (D n u c : ℕ) (ones text part whole : List ℕ) → ¬ (D ≡ 0) → u ≡ 10 ^ D → ones ≡ decimal (n / u) → c ≡ code_of m → text ≡ ones ++ c ∷ [] → whole ≡ text ++ part
    → part ≡ padded_digits D (n % u) → whole ≡ decimal_text (code_of m) D n
joined_text m D n u c ones text part whole some unit ones_are mark text_is whole_is part_is =
    whole_is ∙ (λ i. text_is i ++ part) ∙ append_assoc ones (c ∷ []) part
    ∙ (λ i. (ones_are ∙ ap (λ (k : ℕ). decimal (n / k)) unit) i ++ mark i ∷ (part_is ∙ ap (λ (k : ℕ). padded_digits D (n % k)) unit) i)
    ∙ sym (cond-false (D == 0) (decimal n) _ (ne_eqb D 0 some))

pub under_unit : (D n u : ℕ) → u ≡ 10 ^ D → n % u < 10 ^ D
under_unit D n u unit = subst (λ (k : ℕ). n % u < k) unit (mod-lt n (subst (λ (k : ℕ). 0 < k) (sym unit) (unit_some D)))
