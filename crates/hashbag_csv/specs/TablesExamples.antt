-- Tables, computed.
use Rattle.std.specs.Prelude.{◌≡◌, ◌^◌, ◌-◌, true, false, [], ◌∷◌, codes, refl}
use Rattle.std.specs.Char.Unicode.Rows.{by_runs, by_strings}
use Rattle.std.specs.Char.Unicode.ToUppercase.{to_uppercase, uppercase_runs, uppercase_strings}
use Rattle.std.specs.Fmt.{digits}
use Rattle.std.specs.Str.{chars}
use Rattle.std.specs.StrCase.Upper.{str_to_uppercase}
use Rattle.std.proofs.Common.{arith}
use lib.Utf8.{encode}
use Rattle.unicode_width.specs.Width.{past_emoji, step, str_width}
use Rattle.hashbag_csv.specs.Cells.{Cells}
use Rattle.hashbag_csv.specs.Tables.{cell_text, table_text}
use Rattle.hashbag_csv.specs.Widths.{column_width}
use Rattle.hashbag_csv.specs.declared.cells.Cell.TheVariants.{Text, Number}
use Rattle.hashbag_csv.specs.declared.scale.Mark.TheVariants.{Point}

abbrev bolts : Cells
bolts = Text (codes "bolt\n") ∷ Number 5 (record { decimals = 0; mark = Point; most = 2 ^ 64 - 1; few = omega arith }) ∷ []

-- a column is as wide as its widest cell
widest : column_width ((codes "ab" ∷ codes "c" ∷ []) ∷ (codes "a" ∷ codes "cde" ∷ []) ∷ []) 1 ≡ 3
unfolding chars str_width step past_emoji
widest = refl

-- a text is at the left, a number at the right
text : cell_text true 4 (codes "ab") ≡ codes "ab  "
unfolding chars str_width step past_emoji
text = refl

number : cell_text false 4 (codes "12") ≡ codes "  12"
unfolding chars str_width step past_emoji
number = refl

-- titles, and a row
table : table_text (codes "sku" ∷ codes "ordered" ∷ []) (bolts ∷ []) ≡ codes "SKU     ORDERED\nbolt\\n        5\n"
unfolding chars encode str_width step past_emoji str_to_uppercase to_uppercase by_strings by_runs uppercase_strings uppercase_runs digits
table = refl
