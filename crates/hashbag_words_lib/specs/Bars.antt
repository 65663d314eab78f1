-- Rows with bars, as a terminal shows them.
use Rattle.std.specs.Prelude.{ℕ, ◌+◌, ◌-◌, ◌*◌, ◌/◌, ◌==◌, false, List, [], ◌∷◌, ◌++◌, length, map, take, min, max, replicate, sum_by, nat_le, decimal, unwrap_or, encode_utf8_all, if◌then◌else◌}
use Rattle.std.specs.Char.{is_control}
use Rattle.std.specs.Str.{chars}
use Rattle.unicode_width.specs.Width.{char_width}
use Rattle.hashbag_words_lib.specs.Shares.{rounded}
use Rattle.hashbag_words_lib.specs.declared.bars.Layout.{Layout}

-- ---- names: tokens as they are shown

-- the character that is shown for c: `␉` for a tab, and `�` for any other control character
abbrev pub shown_char : ℕ → ℕ
shown_char c = if c == 9 then 0x2409 else (if is_control c then 0xFFFD else c)

-- the characters of a token as they are shown
abbrev pub name_of : List ℕ → List ℕ
name_of token = map shown_char (chars token)

-- how many columns a character has in a terminal; `columns`: how many columns a name has
abbrev pub char_columns : ℕ → ℕ
char_columns c = unwrap_or (char_width false c) 0

abbrev pub columns : List ℕ → ℕ
columns name = sum_by char_columns name

-- how many characters from the beginning fit into n columns
abbrev pub fitting : ℕ → List ℕ → ℕ
fitting n [] = 0
fitting n (c ∷ cs) = if nat_le (char_columns c) n then 1 + fitting (n - char_columns c) cs else 0

-- a name in n columns: the whole name if it fits, else the characters that fit into n - 1 columns, and then `…`
abbrev pub shortened : ℕ → List ℕ → List ℕ
shortened n name = if fitting n name == length name then name else take (fitting (n - 1) name) name ++ 0x2026 ∷ []

-- the text of a name in n columns, with spaces up to n columns
abbrev pub name_text : ℕ → List ℕ → List ℕ
name_text n name = encode_utf8_all (shortened n name) ++ replicate (n - columns (shortened n name)) 32

-- ---- bars

-- how many marks the bar of a count has. The greatest count has `longest` marks, and any other count its share of them, rounded to the nearest number,
-- halves up, but at least one: in 40 columns 1 of 3 has 13, 2 of 3 have 27, and 1 of 1000 has 1
abbrev pub marks_of : ℕ → ℕ → ℕ → ℕ
marks_of longest greatest count = if count == 0 then 0 else min (max (rounded (longest * count) greatest) 1) longest

-- a number at the right of n columns
abbrev pub right_in : ℕ → ℕ → List ℕ
right_in n number = replicate (n - length (decimal number)) 32 ++ decimal number

-- a line: the token, a space, the count, a space, the bar
abbrev pub bar_line : Layout → List ℕ × ℕ → List ℕ
bar_line layout row =
    name_text layout.names (name_of row.0) ++ 32 ∷ (right_in layout.digits row.1 ++ 32 ∷ (replicate (marks_of layout.bars layout.greatest row.1) 35 ++ 10 ∷ []))

abbrev pub bar_lines : Layout → List (List ℕ × ℕ) → List ℕ
bar_lines layout [] = []
bar_lines layout (row ∷ rows) = bar_line layout row ++ bar_lines layout rows

-- ---- the columns of a line

-- the greatest of a number and the counts of rows
abbrev pub greatest_of : ℕ → List (List ℕ × ℕ) → ℕ
greatest_of most [] = most
greatest_of most (row ∷ rows) = greatest_of (max most row.1) rows

-- the greatest of a number and the columns of the tokens of rows, each at most `limit`
abbrev pub widest : ℕ → ℕ → List (List ℕ × ℕ) → ℕ
widest limit most [] = most
widest limit most (row ∷ rows) = widest limit (max most (min limit (columns (name_of row.0)))) rows

-- how many of a terminal's columns are used: from 40 to 1000
abbrev pub used : ℕ → ℕ
used width = min (max width 40) 1000

-- names have as many columns as the widest name, but at most a third of the width; counts have as many as the greatest count has digits;
-- bars have the rest, but for two spaces
abbrev pub layout_of : ℕ → List (List ℕ × ℕ) → Layout
layout_of width rows =
    let names = widest (used width / 3) 0 rows in
    let greatest = greatest_of 0 rows in
    let digits = length (decimal greatest) in
    record { names = names; digits = digits; bars = used width - names - digits - 2; greatest = greatest }

-- the text of rows on a terminal of `width` columns
abbrev pub bars_text : ℕ → List (List ℕ × ℕ) → List ℕ
bars_text width rows = bar_lines (layout_of width rows) rows
