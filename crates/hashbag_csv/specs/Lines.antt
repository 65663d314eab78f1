-- The lines of a CSV text under its header: an article, which is the fields of the key columns, and a number.
use Rattle.std.specs.Prelude.{ℕ, zero, suc, ◌^◌, ◌==◌, ◌&&◌, Bool, true, false, if◌then◌else◌, List, [], ◌∷◌, ◌++◌, length, map, get_or, bytes_eq, Option, Some, None, option_map, decimal}
use Rattle.std.specs.List.{position_or_len}
use Rattle.hashbag_csv.specs.Decimals.{units}
use Rattle.hashbag_csv.specs.Groups.{ungrouped_if}
use Rattle.hashbag_csv.specs.KeyForms.{field_in}
use Rattle.hashbag_csv.specs.Marks.{code_of}
use Rattle.hashbag_csv.specs.Readers.{Record, records_in}
use Rattle.hashbag_csv.specs.declared.counts.Reading.{Reading}
use Rattle.hashbag_csv.specs.declared.delimiter.Delimiter.{Delimiter}
use Rattle.hashbag_csv.specs.declared.key_form.KeyForm.{KeyForm}
use Rattle.hashbag_csv.specs.declared.line_form.LineForm.{LineForm}
use Rattle.hashbag_csv.specs.declared.number_form.NumberForm.{NumberForm}
use Rattle.hashbag_csv.specs.declared.scale.Scale.{Scale}

-- the place of the first field of the header that is this name; the number of fields if none is
abbrev pub place_of : Record → List ℕ → ℕ
place_of header name = position_or_len (bytes_eq name) header

-- the fields of a record at these places, in this form
abbrev pub fields_at : KeyForm → List ℕ → Record → Record
fields_at form places r = map (λ p. field_in form (get_or r p [])) places

-- the number of a text, in units of the scale
abbrev pub number_in : Scale → List ℕ → ℕ
number_in scale text = units (code_of scale.mark) scale.decimals text

-- the number of a field in this form, in units of the scale
abbrev pub number_by : Scale → NumberForm → List ℕ → ℕ
number_by scale form field = if form.blank_is_zero && (length field == 0) then 0 else number_in scale (ungrouped_if (code_of scale.mark) form.group field)

-- the number of a record, in units of the scale: its field at this place; without a place, 10 ^ decimals
abbrev pub number_at : Scale → NumberForm → Option ℕ → Record → ℕ
number_at scale form (Some place) r = number_by scale form (get_or r place [])
number_at scale form None r = 10 ^ scale.decimals

-- the line of a record: its fields at the places `keys`, and its number at the place `number`, if there is one
abbrev pub line_of : Scale → LineForm → List ℕ → Option ℕ → Record → Record × ℕ
line_of scale form keys number r = (fields_at form.key keys r, number_at scale form.number number r)

-- the lines below a header, which is the first of these records; `keys` and `number` name its columns
abbrev pub lines_under : Scale → LineForm → List (List ℕ) → Option (List ℕ) → List Record → List (Record × ℕ)
lines_under scale form keys number [] = []
lines_under scale form keys number (header ∷ records) = map (line_of scale form (map (place_of header) keys) (option_map (place_of header) number)) records

-- the numbers of `n` columns, from 1. They replace a missing header
abbrev pub column_numbers : ℕ → Record
column_numbers zero = []
column_numbers (suc n) = column_numbers n ++ decimal (suc n) ∷ []

-- the records of a list, the header first. The flag `true` says that there is no header; then the numbers of the first record's columns come first
abbrev pub with_header : Bool → List Record → List Record
with_header false records = records
with_header true [] = []
with_header true (first ∷ records) = column_numbers (length first) ∷ first ∷ records

-- the records of a list, the header first
abbrev pub list_in : Delimiter → LineForm → List ℕ → List Record
list_in delimiter form text = with_header form.no_header (records_in delimiter text)

-- the lines of a text; `keys` and `number` name its columns; without `number`, each line has the number 1
abbrev pub lines_in : Reading → LineForm → List (List ℕ) → Option (List ℕ) → List ℕ → List (Record × ℕ)
lines_in reading form keys number text = lines_under reading.scale form keys number (list_in reading.delimiter form text)
