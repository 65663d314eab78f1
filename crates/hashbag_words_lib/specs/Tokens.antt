-- The tokens of a line and of an input: what is counted.
use Rattle.std.specs.Prelude.{ℕ, ◌+◌, Bool, false, not, List, [], ◌∷◌, nat_eq, nat_lt, length, drop, map, filter, flat_map, chars, encode_utf8_all, if◌then◌else◌, slice_get, slice_range, Option, None, Some}
use Rattle.std.specs.Char.{is_whitespace}
use Rattle.std.specs.List.{slice_split, starts_with}
use Rattle.std.specs.Option.{option_to_list}
use Rattle.std.specs.Str.{is_utf8}
use Rattle.std.specs.Str.Lines.{lines}
use Rattle.std.specs.Str.Lossy.{utf8_lossy}
use Rattle.caseless.specs.Caseless.{default_case_fold}
use Rattle.regex.specs.Patterns.{Re, find_all_str, span}
use Rattle.regex.specs.Strings.{group_count, regex_pattern}
use Rattle.regex.specs.Writes.{group_of}
use Rattle.regex.specs.declared.string.regex.Regex.{Regex}
use Rattle.unicode_segmentation.specs.Word.{words}
use Rattle.hashbag_words_lib.specs.Fields.{fields_of}
use Rattle.hashbag_words_lib.specs.declared.rule.Pieces.{Pieces}
use Rattle.hashbag_words_lib.specs.declared.rule.Pieces.TheVariants.{Words, UnicodeWords, Lines, Matches, Groups, Field}
use Rattle.hashbag_words_lib.specs.declared.rule.Rule.{Rule}

-- a line without the byte order mark at its beginning, if it has one
abbrev pub without_mark : List ℕ → List ℕ
without_mark line = if starts_with nat_eq line (0xEF ∷ 0xBB ∷ 0xBF ∷ []) then drop 3 line else line

-- the texts of a list that aren't empty
abbrev pub nonempty : List (List ℕ) → List (List ℕ)
nonempty texts = filter (λ text. nat_lt 0 (length text)) texts

-- the words of a line between white space
abbrev pub spaced_words : List ℕ → List (List ℕ)
spaced_words line = map encode_utf8_all (nonempty (slice_split is_whitespace (chars line)))

-- what a pattern matches in a line, from left to right
abbrev pub matches_in : Re → List ℕ → List (List ℕ)
matches_in pattern line = map (λ place. slice_range line place.0 place.1) (map span (find_all_str pattern line))

-- the part of a line between two places, if they are given and the part is UTF-8
abbrev pub part_of : List ℕ → Option (ℕ × ℕ) → List (List ℕ)
part_of line None = []
part_of line (Some place) = filter is_utf8 (slice_range line place.0 place.1 ∷ [])

-- what group n has in each match of a pattern in a line, from left to right: with `(a)|b`, group 1 has `a` once in `bab`. A group that took
-- no part, or that the pattern doesn't have, has nothing
abbrev pub groups_in : Regex → ℕ → List ℕ → List (List ℕ)
groups_in pattern n line = if nat_lt n (group_count pattern) then flat_map (λ m. part_of line (group_of m n)) (find_all_str (regex_pattern pattern) line) else []

-- what a line is cut into
abbrev pub pieces_of : Pieces → List ℕ → List (List ℕ)
pieces_of Words line = spaced_words line
pieces_of UnicodeWords line = words line
pieces_of Lines line = line ∷ []
pieces_of (Matches pattern) line = nonempty (matches_in (regex_pattern pattern.now) line)
pieces_of (Groups pattern index) line = nonempty (groups_in pattern.now (index + 1) line)
pieces_of (Field index separator) line = option_to_list (slice_get (fields_of separator line) index)

-- the token that a piece is counted as
abbrev pub token_of : Bool → List ℕ → List ℕ
token_of fold piece = if fold then encode_utf8_all (default_case_fold (chars piece)) else piece

-- the tokens of a line
abbrev pub tokens_of_line : Rule → List ℕ → List (List ℕ)
tokens_of_line rule line = map (token_of rule.fold) (pieces_of rule.pieces (without_mark line))

-- the texts that a line is counted as: the line itself if it is UTF-8; if not, the line with its bytes replaced, or none
abbrev pub texts_of : Bool → List ℕ → List (List ℕ)
texts_of lossy line = if is_utf8 line then line ∷ [] else (if lossy then utf8_lossy line ∷ [] else [])

-- a line isn't UTF-8, and isn't counted
abbrev pub is_bad : Rule → List ℕ → Bool
is_bad rule line = if rule.lossy then false else not (is_utf8 line)

-- a line isn't UTF-8, and is counted with its bytes replaced
abbrev pub is_replaced : Rule → List ℕ → Bool
is_replaced rule line = if rule.lossy then not (is_utf8 line) else false

-- the tokens of these lines; lines that aren't counted have none
abbrev pub tokens_of_lines : Rule → List (List ℕ) → List (List ℕ)
tokens_of_lines rule lines = flat_map (tokens_of_line rule) (flat_map (texts_of rule.lossy) lines)

-- the tokens of an input: those of its lines
abbrev pub tokens_of : Rule → List ℕ → List (List ℕ)
tokens_of rule input = tokens_of_lines rule (lines input)
