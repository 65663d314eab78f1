-- What one more byte, or the end of bytes, makes of a text.
use Rattle.std.proofs.Common.{◌≡◌, ℕ, List, [], ◌∷◌, Option, Some, None, Result, Ok, Err, OnErr, sym, ◌∙◌, ap, subst}
use Rattle.std.specs.Prelude.{encode_utf8, option_map}
use Rattle.hashbag_text.specs.Encodings.{after_char, after_bytes, text_of_any_units, text_of_units, units_in, unit_of, windows_1252, yields}
use Rattle.hashbag_text.specs.States.{text_from, with_high}
use Rattle.hashbag_text.specs.declared.high.High.{High}
use Rattle.hashbag_text.specs.declared.state.State.{State}
use Rattle.hashbag_text.specs.declared.state.State.TheVariants.{Units, Latin1, Windows1252}
use Rattle.hashbag_text.specs.declared.utf16.ByteOrder.{ByteOrder}
use Rattle.hashbag_text.proofs.UnitLemmas.{all_more, all_none, high_left, text_of_no_units}

pub on_err : {T E : Type 0} (r : Result T E) (P : Type 0) → P → OnErr r P
on_err (Ok x) P holds = tt
on_err (Err e) P holds = holds

-- ---- the end

pub units_are : (s : State) (o : ByteOrder) (high half : Option High) (kept byte : Option ℕ) → s ≡ Units o high kept → high ≡ half → kept ≡ byte → s ≡ Units o half byte
units_are s o high half kept byte is is_high is_kept = is ∙ ap (λ (h : Option High). Units o h kept) is_high ∙ ap (λ (b : Option ℕ). Units o half b) is_kept

pub odd_end : (s : State) (o : ByteOrder) (high : Option High) (b : ℕ) → s ≡ Units o high (Some b) → text_from s [] ≡ None
odd_end s o high b is = ap (λ (x : State). text_from x []) is

pub half_end : (s : State) (o : ByteOrder) (high : High) → s ≡ Units o (Some high) None → text_from s [] ≡ None
half_end s o high is = ap (λ (x : State). text_from x []) is ∙ high_left high

pub whole_end : (s : State) (o : ByteOrder) → s ≡ Units o None None → text_from s [] ≡ Some []
whole_end s o is = ap (λ (x : State). text_from x []) is ∙ text_of_no_units

-- the first byte of a unit
pub kept_more : (s : State) (o : ByteOrder) (high : Option High) (byte : ℕ) → s ≡ Units o high None → (bytes : List ℕ) → text_from s (byte ∷ bytes) ≡ text_from (Units o high (Some byte)) bytes
kept_more s o high byte is bytes = ap (λ (x : State). text_from x (byte ∷ bytes)) is

-- ---- a unit

pub unit_more : (s : State) (o : ByteOrder) (high after : Option High) (first byte u : ℕ) (c : Option ℕ) → s ≡ Units o high (Some first) → u ≡ unit_of o first byte
    → ((us : List ℕ) → text_of_units (with_high high (u ∷ us)) ≡ yields c (text_of_units (with_high after us)))
    → (bytes : List ℕ) → text_from s (byte ∷ bytes) ≡ yields c (text_of_any_units (option_map (with_high after) (units_in o bytes)))
unit_more s o high after first byte u c is unit each bytes =
    let IsNext : ℕ → Type 0 = λ v. (us : List ℕ) → text_of_units (with_high high (v ∷ us)) ≡ yields c (text_of_units (with_high after us)) in
    ap (λ (x : State). text_from x (byte ∷ bytes)) is ∙ all_more high after (unit_of o first byte) c (subst IsNext unit each) (units_in o bytes)

pub unit_fails : (s : State) (o : ByteOrder) (high : Option High) (first byte u : ℕ) → s ≡ Units o high (Some first) → u ≡ unit_of o first byte
    → ((us : List ℕ) → text_of_units (with_high high (u ∷ us)) ≡ None)
    → (bytes : List ℕ) → text_from s (byte ∷ bytes) ≡ None
unit_fails s o high first byte u is unit each bytes =
    let Fails : ℕ → Type 0 = λ v. (us : List ℕ) → text_of_units (with_high high (v ∷ us)) ≡ None in
    ap (λ (x : State). text_from x (byte ∷ bytes)) is ∙ all_none high (unit_of o first byte) (subst Fails unit each) (units_in o bytes)

-- ---- a byte that is a character

pub latin_more : (s : State) (byte c : ℕ) → s ≡ Latin1 → c ≡ byte → (bytes : List ℕ) → text_from s (byte ∷ bytes) ≡ after_bytes (encode_utf8 c) (text_from s bytes)
latin_more s byte c is same bytes =
    ap (λ (x : State). text_from x (byte ∷ bytes)) is ∙ ap (λ (n : ℕ). after_bytes (encode_utf8 n) (text_from Latin1 bytes)) (sym same)
    ∙ ap (λ (x : State). after_bytes (encode_utf8 c) (text_from x bytes)) (sym is)

pub windows_more : (s : State) (byte : ℕ) (c : Option ℕ) → s ≡ Windows1252 → c ≡ windows_1252 byte → (bytes : List ℕ) → text_from s (byte ∷ bytes) ≡ after_char c (text_from s bytes)
windows_more s byte c is same bytes =
    ap (λ (x : State). text_from x (byte ∷ bytes)) is ∙ ap (λ (n : Option ℕ). after_char n (text_from Windows1252 bytes)) (sym same)
    ∙ ap (λ (x : State). after_char c (text_from x bytes)) (sym is)
