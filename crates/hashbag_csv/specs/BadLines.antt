-- The bad lines of a text: records that aren't read as lines.
use Rattle.std.specs.Prelude.{◌≡◌, ℕ, ◌<◌, ◌≤◌, ◌⊎◌, ◌++◌, Bool, true, false, List, [], ◌∷◌, length, get_or, Option, Some, None, IfSome, option_map, ⊤}
use Rattle.hashbag_csv.specs.Lines.{list_in, place_of}
use Rattle.hashbag_csv.specs.NumberForms.{IsErrorOfNumberField, IsNumberField}
use Rattle.hashbag_csv.specs.Readers.{Record}
use Rattle.hashbag_csv.specs.Sheets.{IsReadError, fits_header}
use Rattle.hashbag_csv.specs.declared.counts.Reading.{Reading}
use Rattle.hashbag_csv.specs.declared.fault.Fault.{Fault}
use Rattle.hashbag_csv.specs.declared.fault.Fault.TheVariants.{NotText}
use Rattle.hashbag_csv.specs.declared.fault.SheetError.{SheetError}
use Rattle.hashbag_csv.specs.declared.fault.SheetError.TheVariants.{Line, Memory}
use Rattle.hashbag_csv.specs.declared.line_form.LineForm.{LineForm}
use Rattle.hashbag_csv.specs.declared.number_form.NumberForm.{NumberForm}
use Rattle.hashbag_csv.specs.declared.scale.Scale.{Scale}

-- whether a fault is that a field isn't UTF-8
abbrev pub is_text_fault : Fault → Bool
is_text_fault (NotText column) = true
is_text_fault _ = false

-- the error that a field isn't UTF-8, or `Memory`
abbrev pub IsTextError : SheetError → Type 0
IsTextError (Line line fault) = is_text_fault fault ≡ true
IsTextError Memory = ⊤

-- the record's field at the place `number` is a number; true without a place
abbrev pub HasNumber : Scale → NumberForm → Option ℕ → Record → Type 0
HasNumber scale form number r = IfSome number (λ p. IsNumberField scale form (get_or r p []))

-- the error that the record's field at the place `number` isn't a number
abbrev pub IsNumberError : Scale → NumberForm → Option ℕ → Record → SheetError → Type 0
IsNumberError scale form number r e = (line : ℕ) × (p : ℕ) × (number ≡ Some p) × IsErrorOfNumberField scale form line (get_or r p []) e

-- the error that a field of the record isn't UTF-8, or that the field at the place `number` isn't a number; or `Memory`
abbrev pub IsFieldError : Scale → NumberForm → Option ℕ → Record → SheetError → Type 0
IsFieldError scale form number r e = IsTextError e ⊎ IsNumberError scale form number r e

-- the error of a record that isn't read as a line; `fits` is whether the record fits the header
abbrev pub IsLineError : Scale → NumberForm → Option ℕ → Bool → Record → SheetError → Type 0
IsLineError scale form number fits r e = IsReadError fits e ⊎ IsFieldError scale form number r e

-- the check of a record below a header with `width` fields: `None` if the record is read as a line, else its error, which isn't `Memory`
abbrev pub IsCheckOf : Scale → NumberForm → Option ℕ → Bool → ℕ → Record → Option SheetError → Type 0
IsCheckOf scale form number short width r None = (fits_header short width r ≡ true) × HasNumber scale form number r
IsCheckOf scale form number short width r (Some (Line line fault)) = IsLineError scale form number (fits_header short width r) r (Line line fault)
IsCheckOf scale form number short width r (Some Memory) = ⊥

-- the list of the checks, one of each record, in order
abbrev pub AreChecks : (Record → Option SheetError → Type 0) → List Record → List (Option SheetError) → Type 0
AreChecks IsCheck [] [] = ⊤
AreChecks IsCheck [] (v ∷ vs) = ⊥
AreChecks IsCheck (r ∷ rs) [] = ⊥
AreChecks IsCheck (r ∷ rs) (v ∷ vs) = IsCheck r v × AreChecks IsCheck rs vs

-- the errors in a list of checks of records
abbrev pub errors_in : List (Option SheetError) → List SheetError
errors_in [] = []
errors_in (None ∷ vs) = errors_in vs
errors_in (Some e ∷ vs) = e ∷ errors_in vs

-- `errors` are the errors of the bad records among `records`, in the order of the records, at most `most`. The records `read` were read, and `checks`
-- has the check of each of them; `rest` are the other records
pub record AreBadLines (IsCheck : Record → Option SheetError → Type 0) (most : ℕ) (records : List Record) (errors : List SheetError) : Type 0 where
  pub read : List Record
  pub rest : List Record
  pub checks : List (Option SheetError)
  pub all : records ≡ read ++ rest
  pub each : AreChecks IsCheck read checks
  pub named : errors ≡ errors_in checks
  pub few : length errors ≤ most
  pub ends : length errors < most → rest ≡ []

-- the same for the records after a header, which is the first of these records; `number` names the column of numbers
abbrev pub AreBadUnder : Scale → LineForm → Option (List ℕ) → ℕ → List Record → List SheetError → Type 0
AreBadUnder scale form number most [] errors = errors ≡ []
AreBadUnder scale form number most (header ∷ records) errors = AreBadLines (IsCheckOf scale form.number (option_map (place_of header) number) form.allows_short (length header)) most records errors

-- the same for the records of a text
abbrev pub AreBadLinesOf : Reading → LineForm → Option (List ℕ) → ℕ → List ℕ → List SheetError → Type 0
AreBadLinesOf reading form number most text errors = AreBadUnder reading.scale form number most (list_in reading.delimiter form text) errors
