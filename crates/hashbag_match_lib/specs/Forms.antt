-- The text of rows, in each form.
use Rattle.std.specs.Prelude.{ℕ, List, ◌++◌, map}
use Rattle.hashbag_csv.specs.Forms.{rows_in}
use Rattle.hashbag_csv.specs.declared.forms.Form.{Form}
use Rattle.hashbag_csv.specs.declared.forms.Form.TheVariants as form
use Rattle.hashbag_match_lib.specs.Shown.{Entry}
use Rattle.hashbag_match_lib.specs.Written.{Look, cells_in, columns_in, sums_text}
use Rattle.hashbag_match_lib.specs.declared.totals.Totals.{Totals}

-- the text of rows in a form
abbrev pub lines_in : Form → Look → List Entry → List ℕ
lines_in f look rows = rows_in f look.delimiter (columns_in look) (map (cells_in look.scale) rows)

-- the same; a table ends with these sums
abbrev pub text_in : Form → Look → Totals → List Entry → List ℕ
text_in form.Table look totals rows = lines_in form.Table look rows ++ sums_text look.scale totals
text_in form.Csv look totals rows = lines_in form.Csv look rows
text_in form.Json look totals rows = lines_in form.Json look rows
