-- The text of rows that is read in parts.
use Rattle.std.specs.Prelude.{◌≡◌, ℕ, List, [], ◌++◌, drop, map, nat_eq, if◌then◌else◌}
use Rattle.hashbag_core.specs.Walks.{seen}
use Rattle.hashbag_words_lib.specs.Sorted.{row_of}
use Rattle.hashbag_words_lib.specs.Writing.{end_text, rows_text}
use Rattle.hashbag_words_lib.specs.declared.row_text.RowText.{RowText}

-- the rows that haven't been built
abbrev pub rows_left : RowText → List (List ℕ × ℕ)
rows_left text = drop text.built (map row_of (map seen text.rows.items))

-- the bytes that come after the part
abbrev pub rows_left_in : RowText → List ℕ
rows_left_in text = rows_text text.format (nat_eq text.built 0) (rows_left text) ++ (if text.is_ended then [] else end_text text.format)

-- the bytes that haven't been read
abbrev pub bytes_left : RowText → List ℕ
bytes_left text = drop text.read text.part.items ++ rows_left_in text

-- if the part is empty, nothing comes after it
abbrev pub IsOverIfNone : RowText → Type 0
IsOverIfNone text = text.part.items ≡ [] → rows_left_in text ≡ []
