-- The columns and the rows of what is written of a stock.
use Rattle.std.specs.Prelude.{ℕ, ℤ, ◌+◌, ◌-◌, ◌==◌, ◌^◌, min, List, [], ◌∷◌, Option, None, Some, String, codes, get_or, if◌then◌else◌, unsigned_abs}
use Rattle.std.specs.Borrow.{Bor}
use Rattle.std.specs.Global.{Global}
use Rattle.std.specs.String.{string_bytes}
use Rattle.hashbag_csv.specs.Cells.{CellBytes, Cells}
use Rattle.hashbag_csv.specs.Readers.{Record}
use Rattle.hashbag_csv.specs.declared.cells.Cell.TheVariants.{Text, Count, Number, Below}
use Rattle.hashbag_csv.specs.declared.scale.Scale.{Scale}
use Rattle.hashbag_ledger_lib.specs.Extras.{text_if}
use Rattle.hashbag_ledger_lib.specs.declared.extras.Extra.{Extra}
use Rattle.hashbag_ledger_lib.specs.declared.movements.Change.{Change}
use Rattle.hashbag_ledger_lib.specs.declared.movements.Change.TheVariants.{In, Out}
use Rattle.hashbag_ledger_lib.specs.declared.movements.Entry.{Entry}
use Rattle.hashbag_ledger_lib.specs.declared.movements.Outcome.{Outcome}
use Rattle.hashbag_ledger_lib.specs.declared.movements.Outcome.TheVariants.{Entered, Refused}
use Rattle.hashbag_ledger_lib.specs.declared.movements.Refusal.{Refusal}
use Rattle.hashbag_ledger_lib.specs.declared.once.Batch.{Batch}

-- a change: below 0 for `Out`
abbrev pub change_cell : Scale → Change → CellBytes
change_cell scale (In n) = Number n scale
change_cell scale (Out n) = Below n scale

-- ---- balances

abbrev pub balance_names : Bor (List ℕ) × Bor (List ℕ) → Record
balance_names names = names.0.now ∷ names.1.now ∷ []

abbrev pub balance_cells : Scale → String Global × ℕ → Cells
balance_cells scale entry = Text (string_bytes entry.0) ∷ Number entry.1 scale ∷ []

-- ---- batches

abbrev pub batch_names : Record
batch_names = codes "batch" ∷ codes "file" ∷ codes "sha256" ∷ codes "kind" ∷ codes "undoes" ∷ codes "time" ∷ codes "movements" ∷ codes "refused" ∷ []

-- the number of the batch that is undone, if there is one
abbrev pub undone_cell : Option ℤ → CellBytes
undone_cell None = Text []
undone_cell (Some n) = Count (unsigned_abs n)

abbrev pub batch_cells : Batch → Cells
batch_cells b =
    Count (unsigned_abs b.number) ∷ Text (string_bytes b.file) ∷ Text (string_bytes b.sha256) ∷ Text (string_bytes b.kind)
    ∷ undone_cell b.undoes ∷ Text (string_bytes b.time) ∷ Count b.movements ∷ Count b.refused ∷ []

-- ---- movements

abbrev pub outcome_name : Outcome → List ℕ
outcome_name (Entered n) = codes "entered"
outcome_name (Refused n) = codes "refused"

-- how many of the article there are after a movement
abbrev pub number_of : Outcome → ℕ
number_of (Entered n) = n
number_of (Refused n) = n

abbrev pub movement_names : Record
movement_names = codes "line" ∷ codes "date" ∷ codes "article" ∷ codes "change" ∷ codes "outcome" ∷ codes "number" ∷ codes "note" ∷ []

-- the last columns of a movement: its change, what became of it, and its note
abbrev pub with_outcome : Scale → Entry (String Global) × Extra → Cells
with_outcome scale moved =
    change_cell scale moved.0.movement.change ∷ Text (outcome_name moved.0.outcome) ∷ Number (number_of moved.0.outcome) scale ∷ Text (text_if moved.1.note) ∷ []

abbrev pub movement_cells : Scale → Entry (String Global) × Extra → Cells
movement_cells scale moved = Count moved.0.movement.place.line ∷ Text (text_if moved.1.date) ∷ Text (string_bytes moved.0.movement.article) ∷ with_outcome scale moved

abbrev pub history_names : Record
history_names =
    codes "batch" ∷ codes "file" ∷ codes "line" ∷ codes "time" ∷ codes "date" ∷ codes "change" ∷ codes "outcome" ∷ codes "number" ∷ codes "note" ∷ []

-- the file and the time of the first batch of this number, if there is one
abbrev pub source_in : List Batch → ℕ → List ℕ × List ℕ
source_in [] n = ([], [])
source_in (b ∷ bs) n = if unsigned_abs b.number == n then (string_bytes b.file, string_bytes b.time) else source_in bs n

abbrev pub history_cells : List Batch → Scale → Entry (String Global) × Extra → Cells
history_cells batches scale moved =
    let place = moved.0.movement.place in
    let source = source_in batches place.file in
    Count place.file ∷ Text source.0 ∷ Count place.line ∷ Text source.1 ∷ Text (text_if moved.1.date) ∷ with_outcome scale moved

-- ---- differences

-- how many there were before a change, if there are `after` after it
abbrev pub before : Change → ℕ → ℕ
before (In n) after = after - n
before (Out n) after = min (after + n) (2 ^ 64 - 1)

abbrev pub difference_names : Record
difference_names = codes "article" ∷ codes "there" ∷ codes "counted" ∷ codes "change" ∷ []

abbrev pub difference_cells : Scale → Entry (String Global) → Cells
difference_cells scale e =
    let after = number_of e.outcome in
    let change = e.movement.change in
    Text (string_bytes e.movement.article) ∷ Number (before change after) scale ∷ Number after scale ∷ change_cell scale change ∷ []

-- ---- refusals

abbrev pub refusal_names : Record
refusal_names = codes "file" ∷ codes "line" ∷ codes "article" ∷ codes "asked" ∷ codes "there" ∷ []

-- the name of the file of a refusal; `-` if it isn't among these names
abbrev pub file_in : Record → Refusal (String Global) → List ℕ
file_in files r = get_or files r.place.file (codes "-")

abbrev pub refusal_cells : Record → Scale → Refusal (String Global) → Cells
refusal_cells files scale r = Text (file_in files r) ∷ Count r.place.line ∷ Text (string_bytes r.article) ∷ Number r.asked scale ∷ Number r.there scale ∷ []
