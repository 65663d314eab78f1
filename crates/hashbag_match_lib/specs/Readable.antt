-- What each record of a text has to be, so that the text is read as a list.
use Rattle.std.specs.Prelude.{ℕ, List, [], ◌∷◌, All, Option, option_copied, option_map, ⊤}
use Rattle.hashbag_csv.specs.BadLines.{HasNumber}
use Rattle.hashbag_csv.specs.Lines.{list_in, place_of}
use Rattle.hashbag_csv.specs.Readers.{Record}
use Rattle.hashbag_csv.specs.Sheets.{FitHeader}
use Rattle.hashbag_csv.specs.declared.counts.Reading.{Reading}
use Rattle.hashbag_csv.specs.declared.line_form.LineForm.{LineForm}
use Rattle.hashbag_csv.specs.declared.scale.Scale.{Scale}
use Rattle.hashbag_match_lib.specs.declared.ask.Ask.{Ask}
use Rattle.hashbag_match_lib.specs.declared.ask.Columns.{Columns}

-- the first of these records is the header, and each record after it has a number in the column of this name, if there is one
abbrev pub HaveNumbers : Scale → LineForm → Option (List ℕ) → List Record → Type 0
HaveNumbers scale form number [] = ⊤
HaveNumbers scale form number (header ∷ records) = All (HasNumber scale form.number (option_map (place_of header) number)) records

-- each record of a text has as many fields as the header, or fewer if the form allows it, and a number in the column of this name, if there is one
pub record IsReadable (reading : Reading) (form : LineForm) (number : Option (List ℕ)) (text : List ℕ) : Type 0 where
  pub fits : FitHeader form.allows_short (list_in reading.delimiter form text)
  pub numbers : HaveNumbers reading.scale form number (list_in reading.delimiter form text)

-- the same of a text with these columns, as `ask` wants it to be read
abbrev pub IsReadableAs : Ask → Columns → List ℕ → Type 0
IsReadableAs ask c text = IsReadable c.reading ask.line_form (option_copied c.number) text
