-- Rows: tokens with counts.
use Rattle.std.specs.Prelude.{ℕ, List, sum_by, if◌then◌else◌, String, string_bytes}
use Rattle.std.specs.Cmp.Lexicographic.{slice_cmp}
use Rattle.std.specs.Global.{Global}
use Rattle.std.specs.List.Sorted.{IsStrictlySortedBy}
use Rattle.std.specs.Map.{keys_of}
use Rattle.std.specs.Ordering.{nat_cmp}
use Rattle.std.specs.Str.{bytes_eq}
use Rattle.std.specs.declared.cmp.Ordering.{Ordering}

-- the order of texts: by their bytes
abbrev pub text_cmp : List ℕ → List ℕ → Ordering
text_cmp x y = slice_cmp nat_cmp x y

-- a row: the bytes of a token, and a count
abbrev pub row_of : String Global × ℕ → List ℕ × ℕ
row_of row = (string_bytes row.0, row.1)

-- how often a row counts a text: its count if the token is the text, else 0
abbrev pub of_row : List ℕ → List ℕ × ℕ → ℕ
of_row text row = if bytes_eq text row.0 then row.1 else 0

-- how often rows count a text, in all
abbrev pub times_in : List ℕ → List (List ℕ × ℕ) → ℕ
times_in text rows = sum_by (of_row text) rows

-- each token is greater than the token before
abbrev pub Rises : List (List ℕ × ℕ) → Type 0
Rises rows = IsStrictlySortedBy text_cmp (keys_of rows)
