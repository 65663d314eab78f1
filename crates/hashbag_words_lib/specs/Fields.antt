-- The fields of a line.
use Rattle.std.specs.Prelude.{◌≡◌, ℕ, ◌<◌, Bool, true, List, [], ◌∷◌, ◌==◌, nat_lt, length, map, filter, chars, encode_utf8_all, Option, MatchOption}
use Rattle.std.specs.Borrow.{Bor}
use Rattle.std.specs.Char.{char_set_contains}
use Rattle.std.specs.List.{slice_split}
use Rattle.hashbag_words_lib.specs.declared.rule.Separator.{Separator}
use Rattle.hashbag_words_lib.specs.declared.rule.Separator.TheVariants.{Blanks, Char}

-- a character separates fields: with `Blanks` a space or a tab, with `Char` this character
abbrev pub is_separator : Separator → ℕ → Bool
is_separator Blanks c = char_set_contains (32 ∷ 9 ∷ []) c
is_separator (Char separator) c = c == separator

-- the parts of a line between separators
abbrev pub parts_of : Separator → List ℕ → List (List ℕ)
parts_of separator line = map encode_utf8_all (slice_split (is_separator separator) (chars line))

-- `cut` has what is before and after the first separator of a text, or is `None` if the text has no separator
abbrev pub IsCut : Separator → List ℕ → Option (Bor (List ℕ) × Bor (List ℕ)) → Type 0
IsCut separator text cut =
    MatchOption cut (parts_of separator text ≡ text ∷ [])
    (λ p. (parts_of separator text ≡ p.0.now ∷ parts_of separator p.1.now) × (length p.1.now < length text))

-- a part between separators is a field; between blanks an empty part isn't one
abbrev pub is_field : Separator → List ℕ → Bool
is_field Blanks part = nat_lt 0 (length part)
is_field (Char separator) part = true

-- the fields of a line
abbrev pub fields_of : Separator → List ℕ → List (List ℕ)
fields_of separator line = filter (is_field separator) (parts_of separator line)
