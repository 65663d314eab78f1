-- The rows of a stock's tables, as values of SQL: `batch_row`, `movement_row`, `refusal_row` and `article_row` are what is written, and the same
-- words say what is read.
use Rattle.std.specs.Prelude.{◌≡◌, ℕ, ◌+◌, ℤ, pos, negsuc, zero, suc, [], ◌∷◌, Option, string_bytes, String}
use Rattle.std.specs.Global.{Global}
use Rattle.sqlite.specs.Order.{Row, column}
use Rattle.sqlite.specs.Values.{or_null}
use Rattle.sqlite.specs.declared.types.Value.{Value}
use Rattle.sqlite.specs.declared.types.Value.TheVariants.{Int, Text}
use Rattle.hashbag_ledger_lib.specs.declared.extras.Extra.{Extra}
use Rattle.hashbag_ledger_lib.specs.declared.movements.Change.{Change}
use Rattle.hashbag_ledger_lib.specs.declared.movements.Change.TheVariants.{In, Out}
use Rattle.hashbag_ledger_lib.specs.declared.movements.Movement.{Movement}
use Rattle.hashbag_ledger_lib.specs.declared.once.Batch.{Batch}

-- a text
abbrev pub text : String Global → Value
text s = Text (string_bytes s)

-- a text that may be missing
abbrev pub text_if : Option (String Global) → Value
text_if = or_null text

-- a number that may be missing
abbrev pub number_if : Option ℤ → Value
number_if = or_null Int

-- a change as a number: below 0 for `Out`
abbrev pub number_at : Change → ℤ
number_at (In n) = pos n
number_at (Out zero) = pos 0
number_at (Out (suc n)) = negsuc n

-- the row of a batch
abbrev pub batch_row : Batch → Row
batch_row b =
    Int b.number ∷ text b.file ∷ text b.sha256 ∷ text b.kind ∷ number_if b.undoes ∷ text b.time ∷ Int (pos b.movements) ∷ Int (pos b.refused) ∷ text b.seal ∷ []

-- the line, the article and the change of a movement
abbrev pub movement_cells : Movement (String Global) → Row
movement_cells m = Int (pos m.place.line) ∷ text m.article ∷ Int (number_at m.change) ∷ []

-- the row of a movement, which has a number, of the batch of a number
abbrev pub movement_row : ℕ → ℤ → Movement (String Global) → Row
movement_row number batch m = Int (pos number) ∷ Int batch ∷ movement_cells m

-- the date and the note of a movement
abbrev pub extra_row : Extra → Row
extra_row x = text_if x.date ∷ text_if x.note ∷ []

-- the row of the refusal of a movement
abbrev pub refusal_row : ℕ → ℕ → Row
refusal_row number there = Int (pos number) ∷ Int (pos there) ∷ []

-- the row of an article
abbrev pub article_row : String Global → ℕ → Row
article_row article number = text article ∷ Int (pos number) ∷ []

-- a row has these values from a column on
abbrev pub Begins : ℕ → Row → Row → Type 0
Begins at [] row = Unit {0}
Begins at (v ∷ vs) row = (column row at ≡ v) × Begins (at + 1) vs row
