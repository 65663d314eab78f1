-- The columns of a line, and a line that was read.
use Rattle.std.specs.Prelude.{◌≡◌, ℕ, List, [], ◌∷◌, map, Option, MatchOption, option_map}
use Rattle.std.specs.Borrow.{Bor}
use Rattle.hashbag_csv.specs.BadLines.{AreBadLines, HasNumber, IsLineError, IsCheckOf}
use Rattle.hashbag_csv.specs.Lines.{fields_at, line_of, place_of}
use Rattle.hashbag_csv.specs.Readers.{Record}
use Rattle.hashbag_csv.specs.Sheets.{ReadsOne, fits_sheet, is_short_allowed, left, place, read_last, width_of}
use Rattle.hashbag_csv.specs.declared.fault.SheetError.{SheetError}
use Rattle.hashbag_csv.specs.declared.key_form.KeyForm.{KeyForm}
use Rattle.hashbag_csv.specs.declared.line_form.LineForm.{LineForm}
use Rattle.hashbag_csv.specs.declared.lines.LineColumns.{LineColumns}
use Rattle.hashbag_csv.specs.declared.scale.Scale.{Scale}
use Rattle.hashbag_csv.specs.declared.sheet.Column.{Column}
use Rattle.hashbag_csv.specs.declared.sheet.Sheet.{Sheet}

-- the place of the first field with this name in the record that was read last; the number of its fields if none has the name
abbrev pub place_named : Sheet → Bor (List ℕ) → ℕ
place_named s name = place_of (read_last s) name.now

-- the fields of these columns in the record that was read last, in this form
abbrev pub last_fields : KeyForm → List Column → Sheet → Record
last_fields form columns s = fields_at form (map place columns) (read_last s)

-- the place of a column, if there is one
abbrev pub place_if : Option Column → Option ℕ
place_if column = option_map place column

-- the places of the key columns in a record
abbrev pub key_places : LineColumns → List ℕ
key_places c = map place c.article.items

-- the place of the number's column in a record, if there is one
abbrev pub number_place : LineColumns → Option ℕ
number_place c = place_if c.number

-- how the lines are read
abbrev pub form_of : LineColumns → LineForm
form_of c = c.form

-- the line of a record, by these columns
abbrev pub line_by : Scale → LineColumns → Record → Record × ℕ
line_by scale c r = line_of scale (form_of c) (key_places c) (number_place c) r

-- a line as bytes
abbrev pub line_bytes : {A : Type 0} → (A → Record) → A × ℕ → Record × ℕ
line_bytes fields line = (fields line.0, line.1)

-- `before` is one record r and then `after`; `line`, as bytes, is `f r`
abbrev pub IsNextLine : {A : Type 0} → (A → Record) → (Record → Record × ℕ) → List Record → List Record → A × ℕ → Type 0
IsNextLine fields f before after line = (r : Record) × (before ≡ r ∷ after) × (line_bytes fields line ≡ f r)

-- the next record was read, and `next` is its line; or no record was left, and `next` is `None`
abbrev pub ReadsNextLine : {A : Type 0} → (A → Record) → (Record → Record × ℕ) → Sheet → Option (A × ℕ) → Sheet → Type 0
ReadsNextLine fields f old next new = MatchOption next (left old ≡ []) (λ line. IsNextLine fields f (left old) (left new) line)

-- the record's field in the column of the number is a number; true without such a column
abbrev pub HasNumberBy : Scale → LineColumns → Record → Type 0
HasNumberBy scale c r = HasNumber scale (form_of c).number (number_place c) r

-- the error of the record that was read last, which is no line
abbrev pub IsLineErrorBy : Scale → LineColumns → Sheet → Sheet → SheetError → Type 0
IsLineErrorBy scale c old new e = IsLineError scale (form_of c).number (number_place c) (fits_sheet old (read_last new)) (read_last new) e

-- `None` if a record is read as a line with these columns, else its error
abbrev pub IsLineCheck : Scale → LineColumns → Sheet → Record → Option SheetError → Type 0
IsLineCheck scale c sheet = IsCheckOf scale (form_of c).number (number_place c) (is_short_allowed sheet) (width_of sheet)

-- `errors` are the errors of the bad records among the records that aren't read, at most `most`
abbrev pub AreBadLeft : Scale → LineColumns → ℕ → Sheet → List SheetError → Type 0
AreBadLeft scale c most sheet errors = AreBadLines (IsLineCheck scale c sheet) most (left sheet) errors

-- the next record was read, and `next` is its check; or no record was left, and `next` is `None`
abbrev pub ChecksNext : Scale → LineColumns → Sheet → Option (Option SheetError) → Sheet → Type 0
ChecksNext scale c old next new = MatchOption next (left old ≡ []) (λ check. ReadsOne old new × IsLineCheck scale c old (read_last new) check)
