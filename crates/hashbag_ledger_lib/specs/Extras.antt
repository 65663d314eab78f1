-- The dates and notes of movements, as the records of a CSV text have them.
use Rattle.std.specs.Prelude.{◌≡◌, ℕ, true, List, [], ◌∷◌, map, get_or, Option, None, Some, String, IfSome, MatchOption, option_map}
use Rattle.std.specs.Borrow.{Bor}
use Rattle.std.specs.Global.{Global}
use Rattle.std.specs.String.{string_bytes}
use Rattle.hashbag_csv.specs.Lines.{place_of}
use Rattle.hashbag_csv.specs.Readers.{Record, records_in}
use Rattle.hashbag_csv.specs.Sheets.{left, place, read_last}
use Rattle.hashbag_csv.specs.declared.delimiter.Delimiter.{Delimiter}
use Rattle.hashbag_csv.specs.declared.sheet.Column.{Column}
use Rattle.hashbag_csv.specs.declared.sheet.Sheet.{Sheet}
use Rattle.hashbag_ledger_lib.specs.DateForms.{iso_of}
use Rattle.hashbag_ledger_lib.specs.Dates.{is_date}
use Rattle.hashbag_ledger_lib.specs.declared.date_forms.DateForm.{DateForm}
use Rattle.hashbag_ledger_lib.specs.declared.extras.Extra.{Extra}
use Rattle.hashbag_ledger_lib.specs.declared.extras.ExtraColumns.{ExtraColumns}

-- the bytes of a date and of a note, each if there is one
abbrev pub carried : Extra → Option (List ℕ) × Option (List ℕ)
carried x = (option_map string_bytes x.date, option_map string_bytes x.note)

-- a date or a note; empty if there is none
abbrev pub text_if : Option (String Global) → List ℕ
text_if None = []
text_if (Some text) = string_bytes text

-- the text of the date, if there is one, is a valid date
abbrev pub HasNoBadDate : Extra → Type 0
HasNoBadDate x = IfSome x.date (λ d. is_date (string_bytes d) ≡ true)

-- f applied to each column: it turns names into places, for example
abbrev pub columns_of : {C D : Type 0} → (C → D) → ExtraColumns C → ExtraColumns D
columns_of f columns = record { date = option_map f columns.date; note = option_map f columns.note }

-- the place that the column of this name has in a header, if there is a name
abbrev pub place_if : Record → Option (Bor (List ℕ)) → Option ℕ
place_if header name = option_map (λ n. place_of header n.now) name

-- the field of a record at a place, if there is one
abbrev pub field_at : Record → Option ℕ → Option (List ℕ)
field_at r column = option_map (λ p. get_or r p []) column

-- the field of a column, if there is one, in the record that was read last
abbrev pub last_field_if : Sheet → Option Column → Option (List ℕ)
last_field_if sheet column = field_at (read_last sheet) (option_map place column)

-- the date of a record at a place, if there is one: its field, read in a form
abbrev pub date_at : DateForm → Record → Option ℕ → Option (List ℕ)
date_at form r column = option_map (λ p. iso_of form (get_or r p [])) column

-- the date of a column, if there is one, in the record that was read last
abbrev pub last_date_if : DateForm → Sheet → Option Column → Option (List ℕ)
last_date_if form sheet column = date_at form (read_last sheet) (option_map place column)

-- the date and the note that a record has at these places
abbrev pub extra_in : DateForm → ExtraColumns ℕ → Record → Option (List ℕ) × Option (List ℕ)
extra_in form columns r = (date_at form r columns.date, field_at r columns.note)

-- the dates and notes of the records after the header, which is the first record; `names` are the names of the columns
abbrev pub extras_under : DateForm → ExtraColumns (List ℕ) → List Record → List (Option (List ℕ) × Option (List ℕ))
extras_under form names [] = []
extras_under form names (header ∷ records) = map (extra_in form (columns_of (place_of header) names)) records

-- the dates and notes of a text whose columns have these names, and whose dates have this form
abbrev pub extras_in : Delimiter → DateForm → ExtraColumns (List ℕ) → List ℕ → List (Option (List ℕ) × Option (List ℕ))
extras_in delimiter form names text = extras_under form names (records_in delimiter text)

-- the same, with names that a call borrows
abbrev pub extras_read : Delimiter → DateForm → ExtraColumns (Bor (List ℕ)) → List ℕ → List (Option (List ℕ) × Option (List ℕ))
extras_read delimiter form names text = extras_in delimiter form (columns_of (λ n. n.now) names) text

-- `before` is one record r and then `after`; x is what r carries along
abbrev pub IsNextExtra : DateForm → ExtraColumns ℕ → List Record → List Record → Extra → Type 0
IsNextExtra form columns before after x = (r : Record) × (before ≡ r ∷ after) × (carried x ≡ extra_in form columns r)

-- the next record was read, and `next` is what it carries along; or no record was left, and `next` is `None`
abbrev pub ReadsNextExtra : DateForm → ExtraColumns ℕ → Sheet → Option Extra → Sheet → Type 0
ReadsNextExtra form columns old next new = MatchOption next (left old ≡ []) (λ x. IsNextExtra form columns (left old) (left new) x)
