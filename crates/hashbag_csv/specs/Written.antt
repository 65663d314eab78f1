-- The bytes of rows as CSV and as JSON.
use Rattle.std.specs.Prelude.{◌≡◌, ℕ, ◌==◌, Bool, true, false, List, [], ◌∷◌, ◌++◌, flat_map, if◌then◌else◌, map, Some}
use Rattle.std.specs.Borrow.{Bor}
use Rattle.std.specs.Global.{Vec}
use Rattle.csv.specs.Writing.{default_writer, fields_written, has_written, row_text, text_written, with_delimiter, writer_setup}
use Rattle.csv.specs.declared.writer.Writer.{Writer}
use Rattle.csv.specs.declared.writer.WriterBuilder.{WriterBuilder}
use Rattle.json.specs.Print.{print}
use Rattle.json.specs.Token.{Token, begin_array, begin_object, end_array, end_object, key, number, string}
use Rattle.hashbag_csv.specs.Cells.{CellBytes, Cells, text_of_cell}
use Rattle.hashbag_csv.specs.Readers.{Record, byte_of}
use Rattle.hashbag_csv.specs.declared.cells.Cell.TheVariants.{Text, Count, Number, Below}
use Rattle.hashbag_csv.specs.declared.delimiter.Delimiter.{Delimiter}

-- ---- CSV

-- the bytes of fields
abbrev pub field_bytes : Vec (Bor (List ℕ)) → Record
field_bytes fields = map (λ f. f.now) fields.items

-- the settings of the writer: this delimiter between fields, and quotes around a field that needs them
abbrev pub writer_of : Delimiter → WriterBuilder
writer_of d = with_delimiter default_writer (byte_of d)

-- the text of records
abbrev pub records_text : Delimiter → List Record → List ℕ
records_text d records = flat_map (row_text (writer_of d)) records

-- a writer has written these records
pub record HasWritten (d : Delimiter) (records : List Record) (w : Writer (Vec ℕ)) : Type 0 where
  pub setup : writer_setup w ≡ writer_of d
  pub fields : fields_written w ≡ 0
  pub wrote : has_written w ≡ false
  pub text : text_written (λ v. Some v.items) w ≡ Some (records_text d records)

-- a writer of records has written one more
abbrev pub WritesRecord : Record → Writer (Vec ℕ) → Writer (Vec ℕ) → Type 0
WritesRecord r old new = (d : Delimiter) (R : List Record) → HasWritten d R old → HasWritten d (R ++ r ∷ []) new

-- a header, and a record for each row: the texts of its cells
abbrev pub csv_text : Delimiter → Record → List Cells → List ℕ
csv_text d names rows = records_text d (names ∷ map (map text_of_cell) rows)

-- ---- JSON

-- whether JSON has the cell as a number: it is one without decimals
abbrev pub is_plain : CellBytes → Bool
is_plain (Text text) = false
is_plain (Count n) = true
is_plain (Number n scale) = scale.decimals == 0
is_plain (Below n scale) = scale.decimals == 0

-- a JSON number, or a JSON string, with the text of the cell
abbrev pub token_of : CellBytes → Token
token_of cell = if is_plain cell then number (text_of_cell cell) else string (text_of_cell cell)

-- a member for each name
abbrev pub members : Record → List Token → List Token
members [] values = []
members (name ∷ names) [] = []
members (name ∷ names) (value ∷ values) = key name ∷ value ∷ members names values

-- an object with a member for each cell, by the name of its column
abbrev pub object_of : Record → Cells → List Token
object_of names cells = begin_object ∷ (members names (map token_of cells) ++ end_object ∷ [])

-- the tokens of an array of objects
abbrev pub array_tokens : Record → List Cells → List Token
array_tokens names rows = begin_array ∷ (flat_map (object_of names) rows ++ end_array ∷ [])

-- an array on one line, with an object for each row
abbrev pub json_text : Record → List Cells → List ℕ
json_text names rows = print (array_tokens names rows) ++ 10 ∷ []
