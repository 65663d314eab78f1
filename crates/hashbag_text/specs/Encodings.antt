-- What bytes mean in an encoding: a text, as its bytes in UTF-8, or none.
use Rattle.std.specs.Prelude.{ℕ, ◌+◌, ◌-◌, ◌*◌, ◌==◌, ◌&&◌, if◌then◌else◌, nat_le, nat_lt, List, [], ◌∷◌, ◌++◌, map, get_or, Option, None, Some, option_map, encode_utf8}
use Rattle.core.specs.Char.Utf16.{utf16_chars}
use Rattle.hashbag_text.specs.declared.encoding.Encoding.{Encoding}
use Rattle.hashbag_text.specs.declared.encoding.Encoding.TheVariants.{Utf16, Utf16Le, Utf16Be, Latin1, Windows1252}
use Rattle.hashbag_text.specs.declared.utf16.ByteOrder.{ByteOrder}
use Rattle.hashbag_text.specs.declared.utf16.ByteOrder.TheVariants.{Little, Big}

-- these bytes, and then the text, if there is one
abbrev pub after_bytes : List ℕ → Option (List ℕ) → Option (List ℕ)
after_bytes bytes text = option_map (λ t. bytes ++ t) text

-- a character, if there is one, and then the text
abbrev pub yields : Option ℕ → Option (List ℕ) → Option (List ℕ)
yields None text = text
yields (Some c) text = after_bytes (encode_utf8 c) text

-- the character, and then the text; no text if there is no character
abbrev pub after_char : Option ℕ → Option (List ℕ) → Option (List ℕ)
after_char None text = None
after_char (Some c) text = after_bytes (encode_utf8 c) text

-- the text of these characters, if all are characters
abbrev pub text_of : List (Option ℕ) → Option (List ℕ)
text_of [] = Some []
text_of (c ∷ cs) = after_char c (text_of cs)

-- the characters of the bytes 0x80 to 0x9F in Windows-1252; 0 for the five that are none
abbrev pub middle : List ℕ
middle = 0x20AC ∷ 0 ∷ 0x201A ∷ 0x0192 ∷ 0x201E ∷ 0x2026 ∷ 0x2020 ∷ 0x2021 ∷ 0x02C6 ∷ 0x2030 ∷ 0x0160 ∷ 0x2039
    ∷ 0x0152 ∷ 0 ∷ 0x017D ∷ 0 ∷ 0 ∷ 0x2018 ∷ 0x2019 ∷ 0x201C ∷ 0x201D ∷ 0x2022 ∷ 0x2013 ∷ 0x2014 ∷ 0x02DC ∷ 0x2122
    ∷ 0x0161 ∷ 0x203A ∷ 0x0153 ∷ 0 ∷ 0x017E ∷ 0x0178 ∷ []

abbrev pub none_if_zero : ℕ → Option ℕ
none_if_zero c = if c == 0 then None else Some c

-- the character of a byte in Windows-1252: its character in `middle` if the byte is from 0x80 to 0x9F, else the character with the byte's number
abbrev pub windows_1252 : ℕ → Option ℕ
windows_1252 b = if nat_le 0x80 b && nat_lt b 0xA0 then none_if_zero (get_or middle (b - 0x80) 0) else Some b

-- the unit of two bytes
abbrev pub unit_of : ByteOrder → ℕ → ℕ → ℕ
unit_of Little first second = second * 0x100 + first
unit_of Big first second = first * 0x100 + second

-- the units of bytes, if no byte is left over
abbrev pub units_in : ByteOrder → List ℕ → Option (List ℕ)
units_in o [] = Some []
units_in o (a ∷ []) = None
units_in o (a ∷ b ∷ bytes) = option_map (λ units. unit_of o a b ∷ units) (units_in o bytes)

-- the text of units, none if a surrogate is without its other half
abbrev pub text_of_units : List ℕ → Option (List ℕ)
text_of_units units = text_of (utf16_chars units)

-- the text of these units; `None` of `None`
abbrev pub text_of_any_units : Option (List ℕ) → Option (List ℕ)
text_of_any_units None = None
text_of_any_units (Some units) = text_of_units units

-- the order of units whose byte order mark is these two bytes
abbrev pub order_of : ℕ → ℕ → Option ByteOrder
order_of first second = if first == 0xFF && second == 0xFE then Some Little else if first == 0xFE && second == 0xFF then Some Big else None

-- the text of bytes in UTF-16, if their order is known
abbrev pub ordered : Option ByteOrder → List ℕ → Option (List ℕ)
ordered None bytes = None
ordered (Some o) bytes = text_of_any_units (units_in o bytes)

-- the text of bytes in UTF-16 that begin with a byte order mark, without the mark. An empty input needs no mark
abbrev pub marked : List ℕ → Option (List ℕ)
marked [] = Some []
marked (a ∷ []) = None
marked (a ∷ b ∷ bytes) = ordered (order_of a b) bytes

-- the text of bytes in an encoding, if they are text
abbrev pub decoded : Encoding → List ℕ → Option (List ℕ)
decoded Utf16 bytes = marked bytes
decoded Utf16Le bytes = ordered (Some Little) bytes
decoded Utf16Be bytes = ordered (Some Big) bytes
decoded Latin1 bytes = text_of (map (λ b. Some b) bytes)
decoded Windows1252 bytes = text_of (map windows_1252 bytes)

-- the text of bytes: themselves, if no encoding is named
abbrev pub text_in : Option Encoding → List ℕ → Option (List ℕ)
text_in None bytes = Some bytes
text_in (Some encoding) bytes = decoded encoding bytes
