-- The statements of a run: the text of each, and its parameters.
use Rattle.std.specs.Prelude.{◌≡◌, ◌⊎◌, ℕ, ◌+◌, ℤ, ◌++◌, pos, List, [], ◌∷◌, drop, length, map, slice_get, take, codes, Option, None, Some, option_copied, String}
use Rattle.std.specs.Global.{Global}
use Rattle.sqlite.specs.Order.{Row}
use Rattle.sqlite.specs.declared.types.Value.TheVariants.{Int, Text}
use Rattle.hashbag_ledger_db.specs.Rows.{article_row, batch_row, extra_row, movement_row, refusal_row, text}
use Rattle.hashbag_ledger_db.specs.declared.stock.statements.NewMovement.{NewMovement}
use Rattle.hashbag_ledger_db.specs.declared.stock.statements.NewRows.{NewRows}
use Rattle.hashbag_ledger_db.specs.declared.stock.statements.NewStock.{NewStock}
use Rattle.hashbag_ledger_db.specs.declared.stock.statements.Statement.{Statement}
use Rattle.hashbag_ledger_db.specs.declared.stock.statements.Statement.TheVariants.{Create, KeepNumber, Keep, Batch, Movement, Refusal, Row as Changed}
use Rattle.hashbag_ledger_lib.specs.declared.extras.Extra.{Extra}
use Rattle.hashbag_ledger_lib.specs.declared.movements.Entry.{Entry}
use Rattle.hashbag_ledger_lib.specs.declared.movements.Movement.{Movement as Moved}
use Rattle.hashbag_ledger_lib.specs.declared.movements.Outcome.{Outcome}
use Rattle.hashbag_ledger_lib.specs.declared.movements.Outcome.TheVariants.{Entered, Refused}
use Rattle.hashbag_ledger_lib.specs.declared.once.Batch.{Batch as Lot}
use Rattle.hashbag_ledger_lib.specs.declared.rows.RowChange.{RowChange}
use Rattle.hashbag_ledger_lib.specs.declared.rows.RowChange.TheVariants.{Put, Remove}

-- there are dates and notes of all movements, or of none
abbrev pub HasAllExtras : NewRows → Type 0
HasAllExtras new = (new.extras.now ≡ []) ⊎ (length new.extras.now ≡ length new.entries.now)

-- a text of SQL and its parameters
abbrev pub Run : Type 0
Run = List ℕ × Row

abbrev pub insert_meta : List ℕ
insert_meta = codes "INSERT INTO meta (name, value) VALUES (?1, ?2)"

abbrev pub insert_batch : List ℕ
insert_batch = codes "INSERT INTO batch (batch, file, sha256, kind, undoes, time, movements, refused, seal) VALUES (?1, ?2, ?3, ?4, ?5, ?6, ?7, ?8, ?9)"

abbrev pub insert_dated : List ℕ
insert_dated = codes "INSERT INTO movement (movement, batch, line, article, change, date, note) VALUES (?1, ?2, ?3, ?4, ?5, ?6, ?7)"

abbrev pub insert_movement : List ℕ
insert_movement = codes "INSERT INTO movement (movement, batch, line, article, change) VALUES (?1, ?2, ?3, ?4, ?5)"

abbrev pub insert_refusal : List ℕ
insert_refusal = codes "INSERT INTO refusal (movement, there) VALUES (?1, ?2)"

abbrev pub put_article : List ℕ
put_article = codes "INSERT OR REPLACE INTO article (article, number) VALUES (?1, ?2)"

abbrev pub delete_article : List ℕ
delete_article = codes "DELETE FROM article WHERE article = ?1"

-- a movement is added, with its date and its note if it may have them
abbrev pub movement_run : ℕ → ℤ → Moved (String Global) → Option Extra → Run
movement_run number batch m None = (insert_movement, movement_row number batch m)
movement_run number batch m (Some x) = (insert_dated, movement_row number batch m ++ extra_row x)

-- the refusal of a movement is added, if it was refused
abbrev pub refused_run : ℕ → Outcome → List Run
refused_run number (Entered after) = []
refused_run number (Refused there) = (insert_refusal, refusal_row number there) ∷ []

-- a movement of a batch is added, and its refusal if it was refused
abbrev pub entry_run : ℕ → ℤ → Entry (String Global) → Option Extra → List Run
entry_run number batch e x = movement_run number batch e.movement x ∷ refused_run number e.outcome

-- the movements of a batch are added, in turn; the first has this number
abbrev pub entry_runs : ℕ → ℤ → List (Entry (String Global)) → List Extra → List Run
entry_runs number batch [] xs = []
entry_runs number batch (e ∷ es) xs = entry_run number batch e (slice_get xs 0) ++ entry_runs (number + 1) batch es (drop 1 xs)

-- batches are added, in turn, each with its movements: the next entries, as many as its row says
abbrev pub batch_runs : ℕ → List Lot → List (Entry (String Global)) → List Extra → List Run
batch_runs number [] es xs = []
batch_runs number (b ∷ bs) es xs =
    (insert_batch, batch_row b) ∷ entry_runs number b.number (take b.movements es) (take b.movements xs) ++ batch_runs (number + b.movements) bs (drop b.movements es) (drop b.movements xs)

-- the change of a row of the balance
abbrev pub changed : RowChange → Run
changed (Put article number) = (put_article, article_row article number)
changed (Remove article) = (delete_article, text article ∷ [])

-- a movement is added
abbrev pub added : NewMovement → Run
added new = movement_run new.number new.batch new.movement.now (option_copied new.extra)

-- what a statement runs
abbrev pub run_of : Statement → Run
run_of (Create sql) = (sql.now, [])
run_of (KeepNumber name number) = (insert_meta, Text name.now ∷ Int (pos number) ∷ [])
run_of (Keep name value) = (insert_meta, Text name.now ∷ Text value.now ∷ [])
run_of (Batch row) = (insert_batch, batch_row row.now)
run_of (Movement new) = added new
run_of (Refusal number there) = (insert_refusal, refusal_row number there)
run_of (Changed change) = changed change.now

-- what statements run, in turn
abbrev pub runs_of : List Statement → List Run
runs_of = map run_of

-- what a run of a subcommand runs: what creates a new stock, if it is new; the batches; and the changes of the balance
pub record AreRunsOf (new_stock : Option NewStock) (new : NewRows) (runs : List Run) : Type 0 where
  pub created : List Run
  pub none : new_stock ≡ None → created ≡ []
  pub are : runs ≡ (created ++ batch_runs new.first new.batches.now new.entries.now new.extras.now) ++ map changed new.changed.now
