-- The records of a CSV text, from its bytes.
use Rattle.std.specs.Prelude.{◌≡◌, ◌+◌, ℕ, Bool, true, false, List, [], ◌∷◌, length, Option, Some, None}
use Rattle.std.specs.Borrow.{Bor}
use Rattle.csv.specs.Reading.{default_config, is_flexible, names_headers, reader_config, reader_headers, reader_state, reader_trim, records, records_from, source_of, strip_bom, took_first}
use Rattle.csv.specs.declared.parser.Config.{Config}
use Rattle.csv.specs.declared.parser.State.{State}
use Rattle.csv.specs.declared.reader.Reader.{Reader}
use Rattle.csv.specs.declared.reader.Trim.TheVariants as trim
use Rattle.hashbag_csv.specs.declared.delimiter.Delimiter.{Delimiter}
use Rattle.hashbag_csv.specs.declared.delimiter.Delimiter.TheVariants.{Comma, Semicolon, Tab}

-- the byte between fields
abbrev pub byte_of : Delimiter → ℕ
byte_of Comma = 44
byte_of Semicolon = 59
byte_of Tab = 9

-- the settings of the parser: fields may be in quotes, two quotes in such a field are one, and `\n`, `\r` or both are between records
abbrev pub config_of : Delimiter → Config
config_of d = record default_config { delimiter = byte_of d }

-- the fields of a record, as bytes
abbrev pub Record : Type 0
Record = List (List ℕ)

-- the records of a text, the header first; one or two byte order marks at its front are skipped
abbrev pub records_in : Delimiter → List ℕ → List Record
records_in d text = records (config_of d) (strip_bom (strip_bom text))

-- the records in the rest of a text, for a parser in the state `s`; none if there is no text
abbrev pub records_after : Config → State → Option (List ℕ) → List Record
records_after cfg s None = []
records_after cfg s (Some text) = records_from cfg (length text + 1) s text

-- the records that a reader with this delimiter hasn't read
abbrev pub records_left : Delimiter → Reader (Bor (List ℕ)) → List Record
records_left d r = records_after (config_of d) (reader_state r) (source_of (λ b. Some b.now) r)

-- the reader doesn't trim, takes no record as a header, and accepts records of any length
abbrev pub IsReader : Delimiter → Reader (Bor (List ℕ)) → Type 0
IsReader d r = (reader_config r ≡ config_of d) × (reader_trim r ≡ trim.None) × (is_flexible r ≡ true) × (names_headers r ≡ false)
    × (took_first r ≡ false → reader_headers r ≡ None)

-- true: `fields` is the first of the records `before`, and `after` are the others; false: `before` is empty
abbrev pub IsNext : Bool → Record → List Record → List Record → Type 0
IsNext true fields before after = before ≡ fields ∷ after
IsNext false fields before after = before ≡ []
