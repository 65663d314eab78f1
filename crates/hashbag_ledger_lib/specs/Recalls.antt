-- What became of the movements in a database. The stock was empty before the first movement.
use Rattle.std.specs.Prelude.{ℕ, Bool, List, [], ◌==◌, filter, String}
use Rattle.std.specs.Global.{Global}
use Rattle.std.specs.List.{zip}
use Rattle.std.specs.Map.{keys_of, values_of}
use Rattle.std.specs.String.{string_eq}
use Rattle.hashbag_ledger_lib.specs.declared.movements.Entry.{Entry}
use Rattle.hashbag_ledger_lib.specs.declared.movements.Movement.{Movement}
use Rattle.hashbag_ledger_lib.specs.Entries.{entries_of}
use Rattle.hashbag_ledger_lib.specs.Settled.{listed}

module _ {X : Type 0} where
  -- the movements ms, entered into an empty stock, each with what became of it; X is what a movement carries along, such as its day
  abbrev pub recalled : List (Movement (String Global) × X) → List (Entry (String Global) × X)
  recalled ms = zip (entries_of string_eq (listed string_eq []) (keys_of ms)) (values_of ms)

  -- whether an entry is of this batch; `place.file` is the number of the batch
  abbrev pub is_of : ℕ → Entry (String Global) × X → Bool
  is_of batch e = e.0.movement.place.file == batch

  -- the movements of a batch, each with what became of it; all movements before the batch count too
  abbrev pub recalled_of : ℕ → List (Movement (String Global) × X) → List (Entry (String Global) × X)
  recalled_of batch ms = filter (is_of batch) (recalled ms)
