-- What one more unit makes of a text.
use Rattle.std.proofs.Common.{◌≡◌, ℕ, ◌<◌, ◌≤◌, Bool, true, false, cond, ◌&&◌, List, [], ◌∷◌, Option, Some, None, refl, sym, ◌∙◌, ap, arith}
use Rattle.std.proofs.lemmas.Bool.{ltb-true, leb-true}
use Rattle.std.specs.Prelude.{option_map}
use Rattle.core.specs.Char.Utf16.{is_high_surrogate, is_low_surrogate, lone_unit_char, surrogate_pair_char, utf16_chars}
use Rattle.core.proofs.str.Utf16.{lone_unit_char_surrogate}
use Rattle.hashbag_text.specs.Encodings.{after_char, text_of, text_of_any_units, text_of_units, yields}
use Rattle.hashbag_text.specs.States.{with_high}
use Rattle.hashbag_text.specs.declared.high.High.{High}
use Rattle.hashbag_text.proofs.TextLemmas.{both}

pub high_within : (u : ℕ) → is_high_surrogate u ≡ true → (0xD800 ≤ u) × (u < 0xDC00)
high_within u is = let parts = both _ _ is in (leb-true _ _ parts.0, ltb-true _ _ parts.1)

pub low_within : (u : ℕ) → is_low_surrogate u ≡ true → (0xDC00 ≤ u) × (u < 0xE000)
low_within u is = let parts = both _ _ is in (leb-true _ _ parts.0, ltb-true _ _ parts.1)

high_alone : (u : ℕ) → is_high_surrogate u ≡ true → lone_unit_char u ≡ None
high_alone u is = let within = high_within u is in lone_unit_char_surrogate u within.0 (omega arith)

chars_nil : utf16_chars [] ≡ []
unfolding utf16_chars
chars_nil = refl

chars_one : (u : ℕ) → utf16_chars (u ∷ []) ≡ lone_unit_char u ∷ []
unfolding utf16_chars
chars_one u = refl

chars_two : (u v : ℕ) (us : List ℕ) (b : Bool) → (is_high_surrogate u && is_low_surrogate v) ≡ b
    → utf16_chars (u ∷ v ∷ us) ≡ cond b (Some (surrogate_pair_char u v) ∷ utf16_chars us) (lone_unit_char u ∷ utf16_chars (v ∷ us))
unfolding utf16_chars
chars_two u v us b is = ap (λ (t : Bool). cond t (Some (surrogate_pair_char u v) ∷ utf16_chars us) (lone_unit_char u ∷ utf16_chars (v ∷ us))) is

first_false : (a b : Bool) → a ≡ false → (a && b) ≡ false
first_false a b is = ap (λ (x : Bool). x && b) is

first_true : (a b d : Bool) → a ≡ true → b ≡ d → (a && b) ≡ d
first_true a b d is same = ap (λ (x : Bool). x && b) is ∙ same

chars_lone : (u : ℕ) (us : List ℕ) → is_high_surrogate u ≡ false → utf16_chars (u ∷ us) ≡ lone_unit_char u ∷ utf16_chars us
chars_lone u [] is = chars_one u ∙ ap (λ (l : List (Option ℕ)). lone_unit_char u ∷ l) (sym chars_nil)
chars_lone u (v ∷ us) is = chars_two u v us false (first_false _ _ is)

-- the text of no unit
pub text_of_no_units : text_of_units [] ≡ Some []
text_of_no_units = ap text_of chars_nil

-- the first unit of a pair alone
pub high_left : (high : High) → text_of_units (high.unit ∷ []) ≡ None
high_left high = ap text_of (chars_one high.unit ∙ ap (λ (c : Option ℕ). c ∷ []) (high_alone high.unit high.is_high))

-- a unit behind the first one of a pair that isn't its second
pub not_low : (kept : Option High) (high : High) (u : ℕ) → kept ≡ Some high → is_low_surrogate u ≡ false
    → (us : List ℕ) → text_of_units (with_high kept (u ∷ us)) ≡ None
not_low kept high u is other us =
    ap (λ (k : Option High). text_of_units (with_high k (u ∷ us))) is
    ∙ ap text_of (chars_two high.unit u us false (first_true _ _ false high.is_high other)
    ∙ ap (λ (c : Option ℕ). c ∷ utf16_chars (u ∷ us)) (high_alone high.unit high.is_high))

-- the second unit of a pair
pub pair_left : (kept : Option High) (high : High) (u : ℕ) → kept ≡ Some high → is_low_surrogate u ≡ true
    → (us : List ℕ) → text_of_units (with_high kept (u ∷ us)) ≡ yields (Some (surrogate_pair_char high.unit u)) (text_of_units us)
pair_left kept high u is low us =
    ap (λ (k : Option High). text_of_units (with_high k (u ∷ us))) is
    ∙ ap text_of (chars_two high.unit u us true (first_true _ _ true high.is_high low))

-- a unit that is in no pair
pub lone_left : (kept : Option High) (u : ℕ) (c : Option ℕ) → kept ≡ None → is_high_surrogate u ≡ false → c ≡ lone_unit_char u
    → (us : List ℕ) → text_of_units (with_high kept (u ∷ us)) ≡ after_char c (text_of_units us)
lone_left kept u c is other is_char us =
    ap (λ (k : Option High). text_of_units (with_high k (u ∷ us))) is ∙ ap text_of (chars_lone u us other)
    ∙ ap (λ (d : Option ℕ). after_char d (text_of_units us)) (sym is_char)

yields_none : (c : Option ℕ) → yields c None ≡ None
yields_none None = refl
yields_none (Some c) = refl

-- one more unit before the units of m, if m is `Some`
pub all_more : (high after : Option High) (u : ℕ) (c : Option ℕ)
    → ((us : List ℕ) → text_of_units (with_high high (u ∷ us)) ≡ yields c (text_of_units (with_high after us)))
    → (m : Option (List ℕ))
    → text_of_any_units (option_map (with_high high) (option_map (λ (us : List ℕ). u ∷ us) m)) ≡ yields c (text_of_any_units (option_map (with_high after) m))
all_more high after u c each None = sym (yields_none c)
all_more high after u c each (Some us) = each us

pub all_none : (high : Option High) (u : ℕ) → ((us : List ℕ) → text_of_units (with_high high (u ∷ us)) ≡ None)
    → (m : Option (List ℕ)) → text_of_any_units (option_map (with_high high) (option_map (λ (us : List ℕ). u ∷ us) m)) ≡ None
all_none high u each None = refl
all_none high u each (Some us) = each us
