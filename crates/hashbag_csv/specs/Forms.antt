-- The text of rows, in each form.
use Rattle.std.specs.Prelude.{ℕ, List}
use Rattle.hashbag_csv.specs.Cells.{Cells}
use Rattle.hashbag_csv.specs.Readers.{Record}
use Rattle.hashbag_csv.specs.Tables.{table_text}
use Rattle.hashbag_csv.specs.Written.{csv_text, json_text}
use Rattle.hashbag_csv.specs.declared.delimiter.Delimiter.{Delimiter}
use Rattle.hashbag_csv.specs.declared.forms.Form.{Form}
use Rattle.hashbag_csv.specs.declared.forms.Form.TheVariants as form

-- the text of rows in a form; only CSV has the delimiter
abbrev pub rows_in : Form → Delimiter → Record → List Cells → List ℕ
rows_in form.Table delimiter names rows = table_text names rows
rows_in form.Csv delimiter names rows = csv_text delimiter names rows
rows_in form.Json delimiter names rows = json_text names rows
