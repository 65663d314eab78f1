-- What an undo does to a stock.
use Rattle.std.specs.Prelude.{◌≡◌, ◌≢◌, ℕ, ℤ, List, [], ◌∷◌, All, map, Option, None, Some, true, String, string_cmp}
use Rattle.std.specs.Global.{Global}
use Rattle.std.specs.Map.{keys_of}
use Rattle.std.specs.String.{string_eq}
use Rattle.sqlite.specs.Store.{Ghosts}
use Rattle.sqlite.specs.Held.{Held}
use Rattle.hashbag_ledger_db.specs.Commits.{IsOneCommit}
use Rattle.hashbag_ledger_db.specs.Statements.{AreRunsOf, Run}
use Rattle.hashbag_ledger_db.specs.declared.stock.statements.NewRows.{NewRows}
use Rattle.hashbag_ledger_db.specs.declared.stock.statements.NewStock.{NewStock}
use Rattle.hashbag_ledger_db.specs.declared.undoing.Found.{Found}
use Rattle.hashbag_ledger_lib.specs.Changes.{AreChanges, Rises}
use Rattle.hashbag_ledger_lib.specs.Entries.{entries_of}
use Rattle.hashbag_ledger_lib.specs.Kinds.{Undoes}
use Rattle.hashbag_ledger_lib.specs.Settled.{listed}
use Rattle.hashbag_ledger_lib.specs.Undos.{opposites_of, FallsBelowZero, TakesBack}
use Rattle.hashbag_ledger_lib.specs.declared.ledger.booking.Booked.{Booked}
use Rattle.hashbag_ledger_lib.specs.declared.movements.Movement.{Movement}
use Rattle.hashbag_ledger_lib.specs.declared.once.Batch.{Batch}
use Rattle.hashbag_ledger_lib.specs.declared.rows.RowChange.{RowChange}

-- no batch undoes the batch that was found
abbrev pub MayBeUndone : Found → Type 0
MayBeUndone found = All (λ b. ¬ (Undoes found.entered.batch b)) found.source.batches.items

-- the movements of the batch that was found
abbrev pub entered_in : Found → List (Movement (String Global))
entered_in found = keys_of found.entered.movements.items

-- these are the rows of one batch, which undoes the batch of this number
abbrev pub IsUndoOf : ℤ → List Batch → Type 0
IsUndoOf number rows = map (λ b. b.undoes) rows ≡ Some number ∷ []

module _ {S : Type 0} (g : Ghosts S) where
  -- if the disk doesn't fail: what these rows make, after what creates a new stock if it is new, is committed
  pub record IsPut (new_stock : Option NewStock) (new : NewRows) (old later : Held S) : Type 0 where
    pub runs : List Run
    pub are : AreRunsOf new_stock new runs
    pub commit : IsOneCommit g runs old later true

  -- the undo of the batch of this number is written, with these movements, each with what became of it, and these changes of the balance
  pub record IsUndoPut (number : ℤ) (booked : Booked (String Global)) (changed : List RowChange) (old later : Held S) : Type 0 where
    pub new : NewRows
    pub one : IsUndoOf number new.batches.now
    pub entries : new.entries.now ≡ booked.entries.items
    pub changes : new.changed.now ≡ changed
    pub put : IsPut None new old later

  module _ (found : Found) where
    -- the batch that was found is taken back: its opposites are entered into the balance, and are written with what they change in it
    pub record IsTakenBack (old later : Held S) : Type 0 where
      pub booked : Booked (String Global)
      pub changed : List RowChange
      pub back : TakesBack string_eq string_cmp (listed string_eq found.balance.items) (entered_in found) booked.balance.items
      pub entries : booked.entries.items ≡ entries_of string_eq (listed string_eq found.balance.items) (opposites_of (entered_in found))
      pub changes : Rises found.balance.items → AreChanges found.balance.items booked.balance.items changed
      pub put : IsUndoPut found.entered.batch booked changed old later

    -- an article would fall below zero if the batch that was found were taken back, and nothing is written
    pub record IsLeft (old later : Held S) : Type 0 where
      pub same : later ≡ old
      pub article : String Global
      pub below : FallsBelowZero string_eq (listed string_eq found.balance.items) (entered_in found) article

    -- what an undo does to the database, by the status of the program: 0 after a batch that is taken back, 1 after one that isn't
    pub record IsUndone (old later : Held S) (status : ℕ) : Type 0 where
      pub done : status ≡ 0 → IsTakenBack old later
      pub denied : status ≢ 0 → IsLeft old later
