-- The names of the kinds of batches in the table of batches.
use Rattle.std.specs.Prelude.{◌≡◌, ℕ, ℤ, List, [], ◌∷◌, ◌++◌, All, Contains, replicate, unsigned_abs, Option, None, Some, MatchOption, string_bytes, codes}
use Rattle.std.specs.Borrow.{Bor}
use Rattle.hashbag_ledger_lib.specs.declared.once.Batch.{Batch}
use Rattle.hashbag_ledger_lib.specs.declared.once.Kind.{Kind}
use Rattle.hashbag_ledger_lib.specs.declared.verifying.KeptMovement.{KeptMovement}
use Rattle.hashbag_ledger_lib.specs.declared.once.Kind.TheVariants.{Start, Moves, Count, Undo}

-- the name of a kind of batch
abbrev pub name_of : Kind → List ℕ
name_of Start = codes "start"
name_of Moves = codes "moves"
name_of Count = codes "count"
name_of (Undo n) = codes "undo"

-- the number of the batch that an undo undoes; `None` for any other kind
abbrev pub undone_of : Kind → Option ℤ
undone_of Start = None
undone_of Moves = None
undone_of Count = None
undone_of (Undo n) = Some n

-- `found` is a batch of the list for which P holds; or P holds for no batch, and `found` is `None`
abbrev pub IsBatchWith : (Batch → Type 0) → List Batch → Option (Bor Batch) → Type 0
IsBatchWith P batches found = MatchOption found (All (λ b. ¬ (P b)) batches) (λ b. Contains batches b.now × P b.now)

-- a batch has the file with this digest
abbrev pub HasDigest : List ℕ → Batch → Type 0
HasDigest digest b = string_bytes b.sha256 ≡ digest

-- a batch undoes the batch of this number
abbrev pub Undoes : ℤ → Batch → Type 0
Undoes number b = b.undoes ≡ Some number

-- the number of the batch that a movement names
abbrev pub batch_number : KeptMovement → ℕ
batch_number m = m.batch

-- the batch numbers of all movements, in turn: the number of each batch, as often as its row says that it has movements
abbrev pub numbers_of : List Batch → List ℕ
numbers_of [] = []
numbers_of (b ∷ bs) = replicate b.movements (unsigned_abs b.number) ++ numbers_of bs
