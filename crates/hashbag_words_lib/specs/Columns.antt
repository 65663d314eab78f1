-- The fields of a column of a CSV text.
use Rattle.std.specs.Prelude.{ℕ, List, [], ◌∷◌, get_or, map}
use Rattle.hashbag_csv.specs.Lines.{place_of}
use Rattle.hashbag_csv.specs.Readers.{Record, records_in}
use Rattle.hashbag_csv.specs.Sheets.{IsOnlyAt}
use Rattle.hashbag_csv.specs.declared.delimiter.Delimiter.{Delimiter}

-- the field at place p of each record; an empty field if a record has no field there
abbrev pub column_at : ℕ → List Record → List (List ℕ)
column_at p records = map (λ r. get_or r p []) records

-- the fields of the column of this name, in the records after the first record, which is the header
abbrev pub column_under : List ℕ → List Record → List (List ℕ)
column_under name [] = []
column_under name (header ∷ records) = column_at (place_of header name) records

-- the fields of the column of this name, in the records of a text
abbrev pub column_in : Delimiter → List ℕ → List ℕ → List (List ℕ)
column_in delimiter name text = column_under name (records_in delimiter text)

-- the first record, which is the header, has exactly one field that is this name
abbrev pub HasColumn : List ℕ → List Record → Type 0
HasColumn name [] = ⊥
HasColumn name (header ∷ records) = (p : ℕ) × IsOnlyAt name header p
