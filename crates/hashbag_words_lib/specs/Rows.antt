-- How a token and its count are written as a line, and read again.
use Rattle.std.specs.Prelude.{◌≡◌, ◌≢◌, ℕ, ◌<◌, ◌^◌, ◌==◌, Bool, true, false, List, [], ◌∷◌, ◌++◌, length, slice_index, flat_map, All, if◌then◌else◌, String, string_bytes, decimal, Option, None, Some, option_map, option_and_then, Result, IsOkAnd, IsUtf8}
use Rattle.std.specs.Global.{Global}
use Rattle.std.specs.Str.Parse.{IsNumeral, digits_value, without_leading_plus}
use Rattle.hashbag_words_lib.specs.declared.rows.RowForm.{RowForm}
use Rattle.hashbag_words_lib.specs.declared.rows.RowForm.TheVariants.{Tsv, Uniq}

-- the letter that stands for this byte behind a backslash, if it is escaped: t for a tab, n for a line feed, r for a carriage return, and
-- the backslash for itself
abbrev pub letter_of : ℕ → Option ℕ
letter_of byte = if byte == 9 then Some 116 else (if byte == 10 then Some 110 else (if byte == 13 then Some 114 else (if byte == 92 then Some 92 else None)))

-- the byte that this letter stands for behind a backslash
abbrev pub byte_of : ℕ → Option ℕ
byte_of letter = if letter == 116 then Some 9 else (if letter == 110 then Some 10 else (if letter == 114 then Some 13 else (if letter == 92 then Some 92 else None)))

-- a byte as it is written: a backslash and its letter, if it has one
abbrev pub shown_as : ℕ → Option ℕ → List ℕ
shown_as byte None = byte ∷ []
shown_as byte (Some letter) = 92 ∷ letter ∷ []

-- a token as it is written
abbrev pub escaped : List ℕ → List ℕ
escaped token = flat_map (λ byte. shown_as byte (letter_of byte)) token

-- the line of a token and its count, without its end
abbrev pub row : List ℕ → ℕ → List ℕ
row token count = escaped token ++ 9 ∷ decimal count

-- no byte but spaces
abbrev pub AreSpaces : List ℕ → Type 0
AreSpaces xs = All (λ b. b ≡ 32) xs

-- this line is the text of a token and its count in this form; `uniq -c` may write any number of spaces before the count
abbrev pub IsRowText : RowForm → List ℕ → List ℕ → ℕ → Type 0
IsRowText Tsv line token count = line ≡ row token count
IsRowText Uniq line token count = (spaces : List ℕ) × AreSpaces spaces × (line ≡ spaces ++ (decimal count ++ 32 ∷ token))

-- if this line is the text of a token that is UTF-8 and of a count of 64 bits, P holds of this token and this count
abbrev pub IfRow : RowForm → List ℕ → (List ℕ → ℕ → Type 0) → Type 0
IfRow form line P = (token : List ℕ) (count : ℕ) → IsUtf8 token → count < 2 ^ 64 → IsRowText form line token count → P token count

-- this line isn't UTF-8, or isn't the text of any token and count
abbrev pub IsNoRow : RowForm → List ℕ → Type 0
IsNoRow form line = IsUtf8 line → IfRow form line (λ _ _. ⊥)

-- the bytes whose escaped form this is; none for a bad escape. The flag says whether a backslash was just read
abbrev pub unescaped : Bool → List ℕ → Option (List ℕ)
unescaped false [] = Some []
unescaped true [] = None
unescaped false (b ∷ bs) = if b == 92 then unescaped true bs else option_map (λ t. b ∷ t) (unescaped false bs)
unescaped true (b ∷ bs) = option_and_then (λ byte. option_map (λ t. byte ∷ t) (unescaped false bs)) (byte_of b)

-- these bytes are the escaped form of no text
abbrev pub IsNoEscapedText : List ℕ → Type 0
IsNoEscapedText written = (text : List ℕ) → IsUtf8 text → unescaped false written ≢ Some text

-- these bytes are read as this number of 64 bits: its digits, with or without a plus sign before them
pub record IsNumber (digits : List ℕ) (count : ℕ) : Type 0 where
  pub numeral : IsNumeral 10 (without_leading_plus digits)
  pub value : digits_value 10 (without_leading_plus digits) ≡ count
  pub fits : count < 2 ^ 64

-- this line is read as that token and count: the token as it is written, the first tab, and the count
pub record IsLineOf (line token : List ℕ) (count : ℕ) : Type 0 where
  pub written : List ℕ
  pub digits : List ℕ
  pub parts : line ≡ written ++ 9 ∷ digits
  pub first : (i : ℕ) → i < length written → slice_index written i ≢ 9
  pub means : unescaped false written ≡ Some token
  pub number : IsNumber digits count

-- this line, as `uniq -c` may have written it, is read as that token and count: spaces, the count, a space, and the token
pub record IsUniqLineOf (line token : List ℕ) (count : ℕ) : Type 0 where
  pub spaces : List ℕ
  pub digits : List ℕ
  pub parts : line ≡ spaces ++ (digits ++ 32 ∷ token)
  pub blank : AreSpaces spaces
  pub first : (i : ℕ) → i < length digits → slice_index digits i ≢ 32
  pub number : IsNumber digits count

-- this line is read as that token and count, in this form
abbrev pub IsRowOf : RowForm → List ℕ → List ℕ × ℕ → Type 0
IsRowOf Tsv line r = IsLineOf line r.0 r.1
IsRowOf Uniq line r = IsUniqLineOf line r.0 r.1

-- the whole token, if `token` was read so far and the escaped bytes `rest` follow; none if what was read is bad
abbrev pub resumed : List ℕ → Option Bool → List ℕ → Option (List ℕ)
resumed token None rest = None
resumed token (Some is_marked) rest = option_map (λ more. token ++ more) (unescaped is_marked rest)

-- what was read is this token with this count
abbrev pub IsRead : {E : Type 0} → List ℕ → ℕ → Result (String Global × ℕ) E → Type 0
IsRead token count read = IsOkAnd read (λ p. (string_bytes p.0 ≡ token) × (p.1 ≡ count))

-- reading this byte changes the token read so far and the flag. The whole token (`resumed`) is unchanged, whatever escaped bytes follow
abbrev pub ReadsByte : ℕ → List ℕ → Bool → List ℕ → Option Bool → Type 0
ReadsByte byte old is_marked new marked = (rest : List ℕ) → resumed old (Some is_marked) (byte ∷ rest) ≡ resumed new marked rest
