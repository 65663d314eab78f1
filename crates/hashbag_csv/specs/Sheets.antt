-- The record that a sheet read last, and the records that it hasn't read.
use Rattle.std.specs.Prelude.{◌≡◌, ◌≢◌, ◌<◌, ◌==◌, ◌⊎◌, nat_le, if◌then◌else◌, ℕ, Bool, true, false, List, [], ◌∷◌, length, get_or, All, Option, MatchOption, ⊤}
use Rattle.csv.specs.Records.{fields_of}
use Rattle.hashbag_csv.specs.Readers.{Record, records_left}
use Rattle.hashbag_csv.specs.declared.fault.Fault.{Fault}
use Rattle.hashbag_csv.specs.declared.fault.Fault.TheVariants.{Fields, NoColumn, OpenQuote, StrayQuote, TextAfterQuote, TwoColumns}
use Rattle.hashbag_csv.specs.declared.fault.SheetError.{SheetError}
use Rattle.hashbag_csv.specs.declared.fault.SheetError.TheVariants.{Line, Memory}
use Rattle.hashbag_csv.specs.declared.sheet.Column.{Column}
use Rattle.hashbag_csv.specs.declared.sheet.Sheet.{Sheet}

-- the record that was read last
abbrev pub read_last : Sheet → Record
read_last s = fields_of s.record

-- the records that haven't been read
abbrev pub left : Sheet → List Record
left s = records_left s.delimiter s.reader

-- the next record was read
abbrev pub ReadsOne : Sheet → Sheet → Type 0
ReadsOne old new = left old ≡ read_last new ∷ left new

-- the place of a column in a record
abbrev pub place : Column → ℕ
place c = c.place

-- the field of this column in the record that was read last; empty if the record ends before it
abbrev pub last_field : Sheet → Column → List ℕ
last_field s c = get_or (read_last s) (place c) []

-- the field at this place, and no other, is the name
abbrev pub IsOnlyAt : List ℕ → Record → ℕ → Type 0
IsOnlyAt name fields p = (p < length fields) × (get_or fields p [] ≡ name) × ((k : ℕ) → k < length fields → get_or fields k [] ≡ name → k ≡ p)

-- the fault that no field of the header, or more than one, is this name
abbrev pub IsNameFault : List ℕ → Record → Fault → Type 0
IsNameFault name fields (NoColumn shown names) = (k : ℕ) → k < length fields → get_or fields k [] ≢ name
IsNameFault name fields (TwoColumns shown) = (i : ℕ) × (j : ℕ) × (i < j) × (j < length fields) × (get_or fields i [] ≡ name) × (get_or fields j [] ≡ name)
IsNameFault name fields _ = ⊥

-- the error that no field of the header, or more than one, is this name; or `Memory`
abbrev pub IsColumnError : List ℕ → Record → SheetError → Type 0
IsColumnError name fields (Line line fault) = IsNameFault name fields fault
IsColumnError name fields Memory = ⊤

-- how many fields the header has
abbrev pub width_of : Sheet → ℕ
width_of s = s.width

-- whether a record may have fewer fields than the header
abbrev pub is_short_allowed : Sheet → Bool
is_short_allowed s = s.allows_short

-- the header's width, and whether records may be shorter, are as before
abbrev pub KeepsHeader : Sheet → Sheet → Type 0
KeepsHeader old new = (width_of new ≡ width_of old) × (is_short_allowed new ≡ is_short_allowed old)

-- the record that was read last is as wide as the header, and records may be shorter exactly if `short` is true
abbrev pub IsAtHeader : Bool → Sheet → Type 0
IsAtHeader short s = (width_of s ≡ length (read_last s)) × (is_short_allowed s ≡ short)

-- a list with these records was opened: the header was read last, and the other records are left; or the list has no record, and `opened` is `None`
abbrev pub IsOpened : List Record → Option Sheet → Type 0
IsOpened records opened = MatchOption opened (records ≡ []) (λ s. records ≡ read_last s ∷ left s)

-- whether a record has `width` fields, as the header has, or fewer if `short`
abbrev pub fits_header : Bool → ℕ → Record → Bool
fits_header short width r = if short then nat_le (length r) width else length r == width

-- whether a record fits the header of a sheet
abbrev pub fits_sheet : Sheet → Record → Bool
fits_sheet s r = fits_header s.allows_short s.width r

-- the next record was read, and it fits the header
abbrev pub ReadsFitting : Sheet → Sheet → Type 0
ReadsFitting old new = ReadsOne old new × (fits_sheet old (read_last new) ≡ true)

-- the first of these records is the header, and each record after it fits the header
abbrev pub FitHeader : Bool → List Record → Type 0
FitHeader short [] = ⊤
FitHeader short (header ∷ records) = All (λ r. fits_header short (length header) r ≡ true) records

-- whether a fault is that a record has another number of fields than the header
abbrev pub is_fields_fault : Fault → Bool
is_fields_fault (Fields found header) = true
is_fields_fault _ = false

-- whether a fault is that a quote is out of place
abbrev pub is_quote_fault : Fault → Bool
is_quote_fault OpenQuote = true
is_quote_fault TextAfterQuote = true
is_quote_fault StrayQuote = true
is_quote_fault _ = false

-- an error of `read`: a quote is misplaced, or the record doesn't fit the header (`fits` is false), or an allocation failed
abbrev pub IsReadError : Bool → SheetError → Type 0
IsReadError fits (Line line fault) = (is_quote_fault fault ≡ true) ⊎ ((is_fields_fault fault ≡ true) × (fits ≡ false))
IsReadError fits Memory = ⊤
