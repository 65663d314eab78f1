-- The movements of a CSV text below its header: for each record an article and a change.
use Rattle.std.specs.Prelude.{◌≡◌, ℕ, List, [], ◌∷◌, ◌==◌, ◌++◌, if◌then◌else◌, map, get_or, bytes_eq, codes, All, String, Option, MatchOption}
use Rattle.std.specs.Borrow.{Bor}
use Rattle.std.specs.Global.{Global}
use Rattle.std.specs.String.{string_bytes, string_eq}
use Rattle.hashbag_core.specs.Bag.{Bag}
use Rattle.hashbag_csv.specs.Lines.{number_in, place_of}
use Rattle.hashbag_csv.specs.Readers.{Record, records_in}
use Rattle.hashbag_csv.specs.Sheets.{left}
use Rattle.hashbag_csv.specs.declared.counts.Reading.{Reading}
use Rattle.hashbag_csv.specs.declared.scale.Scale.{Scale}
use Rattle.hashbag_csv.specs.declared.sheet.Sheet.{Sheet}
use Rattle.hashbag_ledger_lib.specs.declared.movements.Change.{Change}
use Rattle.hashbag_ledger_lib.specs.declared.movements.Change.TheVariants.{In, Out}
use Rattle.hashbag_ledger_lib.specs.declared.movements.Movement.{Movement}
use Rattle.hashbag_ledger_lib.specs.declared.movements.Refusal.{Refusal}
use Rattle.hashbag_ledger_lib.specs.declared.reading.ChangeColumns.{ChangeColumns}
use Rattle.hashbag_ledger_lib.specs.declared.reading.ChangeColumns.TheVariants.{Signed, ByKind}
use Rattle.hashbag_ledger_lib.specs.declared.reading.Columns.{Columns}
use Rattle.hashbag_ledger_lib.specs.Settled.{IsLedgerOf}

-- the content of a movement, without its place: the article, as bytes, and the change
abbrev pub content_of : Movement (String Global) → List ℕ × Change
content_of m = (string_bytes m.article, m.change)

-- the contents of movements, in turn
abbrev pub contents_of : List (Movement (String Global)) → List (List ℕ × Change)
contents_of ms = map content_of ms

-- a number after `-` goes out; a number after `+`, or without a sign, comes in
abbrev pub signed : Scale → List ℕ → Change
signed scale [] = In (number_in scale [])
signed scale (c ∷ digits) = if c == 45 then Out (number_in scale digits) else (if c == 43 then In (number_in scale digits) else In (number_in scale (c ∷ digits)))

-- the kind `in` adds n; any other kind removes n
abbrev pub of_kind : List ℕ → ℕ → Change
of_kind kind n = if bytes_eq (codes "in") kind then In n else Out n

-- f applied to each column of a change
abbrev pub change_by : {C D : Type 0} → (C → D) → ChangeColumns C → ChangeColumns D
change_by f (Signed change) = Signed (f change)
change_by f (ByKind kind number) = ByKind (f kind) (f number)

-- f applied to each column of a movement: it turns names into places, for example
abbrev pub columns_by : {C D : Type 0} → (C → D) → Columns C → Columns D
columns_by f columns = record { article = f columns.article; change = change_by f columns.change }

-- the names of columns, as bytes
abbrev pub names_now : Columns (Bor (List ℕ)) → Columns (List ℕ)
names_now names = columns_by (λ n. n.now) names

-- the places that the columns of a change have in a header; `names` are the names of the columns
abbrev pub change_places : Record → ChangeColumns (Bor (List ℕ)) → ChangeColumns ℕ
change_places header names = change_by (λ n. place_of header n.now) names

-- the places that the columns of a movement have in a header; `names` are the names of the columns
abbrev pub places_under : Record → Columns (Bor (List ℕ)) → Columns ℕ
places_under header names = columns_by (λ n. place_of header n.now) names

-- the change of a record
abbrev pub change_in : Scale → ChangeColumns ℕ → Record → Change
change_in scale (Signed change) r = signed scale (get_or r change [])
change_in scale (ByKind kind number) r = of_kind (get_or r kind []) (number_in scale (get_or r number []))

-- the content of a record's movement: the article and the change
abbrev pub movement_in : Scale → Columns ℕ → Record → List ℕ × Change
movement_in scale columns r = (get_or r columns.article [], change_in scale columns.change r)

-- the movements below a header, which is the first of these records; `names` are the names of its columns
abbrev pub movements_under : Scale → Columns (List ℕ) → List Record → List (List ℕ × Change)
movements_under scale names [] = []
movements_under scale names (header ∷ records) = map (movement_in scale (columns_by (place_of header) names)) records

-- the movements of a text, whose columns have these names
abbrev pub movements_in : Reading → Columns (List ℕ) → List ℕ → List (List ℕ × Change)
movements_in reading names text = movements_under reading.scale names (records_in reading.delimiter text)

-- the same, with names that a call borrows
abbrev pub movements_read : Reading → Columns (Bor (List ℕ)) → List ℕ → List (List ℕ × Change)
movements_read reading names text = movements_in reading (names_now names) text

-- `before` is one record r and then `after`; m is the movement of r
abbrev pub IsNextMovement : Scale → Columns ℕ → List Record → List Record → Movement (String Global) → Type 0
IsNextMovement scale columns before after m = (r : Record) × (before ≡ r ∷ after) × (content_of m ≡ movement_in scale columns r)

-- the movements of one file were entered, after any earlier movements; `moved` is the content of the movements of the file
pub record EntersFile {S : Type 0} (file : ℕ) (moved : List (List ℕ × Change)) (refused : List (Refusal (String Global))) (stock : Bag (String Global) S) (refused' : List (Refusal (String Global))) (stock' : Bag (String Global) S) : Type 0 where
  pub read : List (Movement (String Global))
  pub all : map content_of read ≡ moved
  pub places : All (λ m. m.place.file ≡ file) read
  pub entered : (L : List (String Global × ℕ)) (ms : List (Movement (String Global))) → IsLedgerOf string_eq L ms refused stock → IsLedgerOf string_eq L (ms ++ read) refused' stock'

-- the next record was read, and `next` is its movement; or no record was left, and `next` is `None`
abbrev pub ReadsNextMovement : Scale → Columns ℕ → Sheet → Option (Movement (String Global)) → Sheet → Type 0
ReadsNextMovement scale columns old next new = MatchOption next (left old ≡ []) (λ m. IsNextMovement scale columns (left old) (left new) m)
