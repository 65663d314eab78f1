-- Texts as messages show them: on one line.
use Rattle.std.specs.Prelude.{ℕ, List, [], ◌∷◌, ◌++◌, chars, codes, encode_utf8_all, flat_map, if◌then◌else◌, length, nat_lt, take}
use Rattle.std.specs.Char.{is_control}
use Rattle.std.specs.Char.Escape.{escape_default}

-- a character as it is shown: a control character as Rust's `escape_default` writes it, any other as it is
abbrev pub char_shown : ℕ → List ℕ
char_shown c = if is_control c then escape_default c else c ∷ []

-- the bytes of a character as it is shown
abbrev pub char_text : ℕ → List ℕ
char_text c = encode_utf8_all (char_shown c)

-- a text with its characters as they are shown
abbrev pub escaped_text : List ℕ → List ℕ
escaped_text text = flat_map char_text (chars text)

-- how many characters of a field a message shows
abbrev pub most_shown : ℕ
most_shown = 60

-- a field with its characters as they are shown: the first 60, and `..` if there are more
abbrev pub shown_text : List ℕ → List ℕ
shown_text field = if nat_lt most_shown (length (chars field)) then flat_map char_text (take most_shown (chars field)) ++ codes ".." else escaped_text field
