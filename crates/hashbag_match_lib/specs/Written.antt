-- The cells of rows, and the last line of a table.
use Rattle.std.specs.Prelude.{ℕ, ◌==◌, List, [], ◌∷◌, ◌++◌, codes, decimal, if◌then◌else◌, map}
use Rattle.std.specs.Borrow.{Bor}
use Rattle.std.specs.Global.{Vec}
use Rattle.hashbag_csv.specs.Cells.{Cells}
use Rattle.hashbag_csv.specs.Readers.{Record}
use Rattle.hashbag_csv.specs.Scales.{number_text}
use Rattle.hashbag_csv.specs.declared.cells.Cell.TheVariants.{Text, Number}
use Rattle.hashbag_csv.specs.declared.delimiter.Delimiter.{Delimiter}
use Rattle.hashbag_csv.specs.declared.scale.Scale.{Scale}
use Rattle.hashbag_match_lib.specs.Matching.{missing_of, surplus_of}
use Rattle.hashbag_match_lib.specs.Shown.{Entry}
use Rattle.hashbag_match_lib.specs.declared.output.Layout.{Layout}
use Rattle.hashbag_match_lib.specs.declared.totals.Totals.{Totals}

-- how rows are written: the names of the key columns and of the carried columns, the scale of numbers, and what is between fields
pub record Look : Type 0 where
  pub keys : Record
  pub carried : Record
  pub scale : Scale
  pub delimiter : Delimiter

-- the look of a layout, with names as bytes
abbrev pub look_of : Layout → Look
look_of layout = record {
  keys = map (λ n. n.now) layout.keys.now;
  carried = map (λ n. n.now) layout.carried.now;
  scale = layout.scale;
  delimiter = layout.delimiter;
}

-- the bytes of names
abbrev pub lent_names : Vec (Bor (List ℕ)) → Record
lent_names names = map (λ n. n.now) names.items

-- the names of the columns of numbers
abbrev pub number_names : Record
number_names = codes "ordered" ∷ codes "delivered" ∷ codes "missing" ∷ codes "surplus" ∷ []

-- the names of all columns
abbrev pub columns_in : Look → Record
columns_in look = look.keys ++ (look.carried ++ number_names)

-- the cells of a row: its fields, and its numbers in the order of their columns
abbrev pub cells_in : Scale → Entry → Cells
cells_in scale row =
    map Text row.article.0 ++ (map Text row.article.1
    ++ Number row.ordered scale ∷ Number row.delivered scale ∷ Number (missing_of row) scale ∷ Number (surplus_of row) scale ∷ [])

-- the last line of a table: how many articles differ, and what is missing and surplus in all
abbrev pub sums_text : Scale → Totals → List ℕ
sums_text scale totals =
    let sums = number_text scale totals.missing ++ (codes " missing, " ++ (number_text scale totals.surplus ++ codes " surplus\n")) in
    if totals.differing == 0 then codes "no article of " ++ (decimal totals.articles ++ codes " differs\n")
    else (if totals.differing == 1 then codes "1 article differs: " ++ sums else decimal totals.differing ++ (codes " articles differ: " ++ sums))
