-- The text of the bytes that follow, given the state after the bytes so far.
use Rattle.std.specs.Prelude.{◌≡◌, ℕ, List, [], ◌∷◌, map, Option, None, Some, option_map, encode_utf8}
use Rattle.hashbag_text.specs.Encodings.{marked, text_of, text_of_any_units, text_of_units, units_in, windows_1252, yields}
use Rattle.hashbag_text.specs.declared.high.High.{High}
use Rattle.hashbag_text.specs.declared.state.State.{State}
use Rattle.hashbag_text.specs.declared.state.State.TheVariants.{Mark, Units, Latin1, Windows1252}

-- the bytes of a character, if there is one
abbrev pub spelled : Option ℕ → List ℕ
spelled None = []
spelled (Some c) = encode_utf8 c

-- `units`, after the pending high surrogate `high`, if there is one
abbrev pub with_high : Option High → List ℕ → List ℕ
with_high None units = units
with_high (Some high) units = high.unit ∷ units

-- `bytes`, after the byte that the state keeps, if there is one
abbrev pub with_kept : Option ℕ → List ℕ → List ℕ
with_kept None bytes = bytes
with_kept (Some byte) bytes = byte ∷ bytes

-- the text of what the state keeps and then of these bytes
abbrev pub text_from : State → List ℕ → Option (List ℕ)
text_from (Mark kept) bytes = marked (with_kept kept bytes)
text_from (Units o high kept) bytes = text_of_any_units (option_map (with_high high) (units_in o (with_kept kept bytes)))
text_from Latin1 bytes = text_of (map (λ b. Some b) bytes)
text_from Windows1252 bytes = text_of (map windows_1252 bytes)

-- `r` is the pending high surrogate, if any, and the character, if any, after `unit`: for any `units`, the text of `high`, `unit` and `units` is that
-- character and then the text of `r.0` and `units`
abbrev pub EndsUnit : Option High → ℕ → Option High × Option ℕ → Type 0
EndsUnit high unit r = (units : List ℕ) → text_of_units (with_high high (unit ∷ units)) ≡ yields r.1 (text_of_units (with_high r.0 units))
