-- What is written inside a transaction, and the one commit at its end.
use Rattle.std.specs.Prelude.{◌≡◌, ℕ, Bool, true, false, IsTrue, List, [], ◌∷◌, Ok}
use Rattle.sqlite.specs.Effect.{Database}
use Rattle.sqlite.specs.Store.{Ghosts}
use Rattle.sqlite.specs.Held.{Held, state}
use Rattle.sqlite.specs.State.{State, ExecutesInside, HasCleanDisk, KeepsCommit, Survives}
use Rattle.hashbag_ledger_db.specs.Statements.{Run}

-- if the disk doesn't fail, nothing is committed: a crash leaves what it could leave before
pub record IsInside (old new : State) : Type 0 where
  pub keeps : HasCleanDisk new → KeepsCommit old new
  pub survives : Survives old new (λ _. ⊥)

module _ {S : Type 0} (g : Ghosts S) where
  -- a statement ran, as the specification of the crate `sqlite` has it
  abbrev pub Ran : Run → Held S → Held S → Type 0
  Ran run old new = (count : ℕ) × ExecutesInside 0 run.0 run.1 (state g old) (state g new) (Ok count)

  -- statements ran, in turn
  abbrev pub RunsAll : List Run → Held S → Held S → Type 0
  RunsAll [] old new = new ≡ old
  RunsAll (run ∷ runs) old new = (mid : Held S) × Ran run old mid × RunsAll runs mid new

  -- one step: nothing is committed; with `is_done` the statement ran, if the disk doesn't fail
  pub record IsStep (is_done : Bool) (run : Run) (old new : Held S) : Type 0 where
    pub inside : IsInside (state g old) (state g new)
    pub ran : HasCleanDisk (state g new) → is_done ≡ true → Ran run old new

  -- a transaction was begun, in which these statements ran, in turn, and which made this content
  pub record IsMade (runs : List Run) (old : Held S) (database : Database) : Type 0 where
    pub end : Held S
    pub ran : RunsAll runs (record old { in_transaction = true }) end
    pub made : database ≡ (state g end).now

  -- if the disk doesn't fail: with `is_done` the new content `database` is committed, and these statements, in turn, made it; else nothing is, if the
  -- connection is still open. A crash leaves what it could leave before, or this content
  pub record IsOneCommit (runs : List Run) (old new : Held S) (is_done : Bool) : Type 0 where
    pub database : Database
    pub done : HasCleanDisk (state g new) → is_done ≡ true → ((state g new).committed ≡ database) × IsMade runs old database
    pub undone : HasCleanDisk (state g new) → IsTrue (state g new).is_open → is_done ≡ false → (state g new).committed ≡ (state g old).committed
    pub crash : Survives (state g old) (state g new) (λ trees. trees ≡ database.trees)
