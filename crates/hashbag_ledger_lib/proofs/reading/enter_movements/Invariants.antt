use Rattle.std.proofs.Common.{◌≡◌, ◌++◌, ℕ, List, length, map}
use Rattle.hashbag_csv.specs.Sheets.{left, place}
use Rattle.hashbag_ledger_lib.specs.declared.movements.Change.{Change}
use Rattle.hashbag_ledger_lib.specs.Movements.{columns_by, movement_in, movements_in, EntersFile, names_now}
use Rattle.hashbag_ledger_lib.proofs.reading.enter_movements.Given as goal

-- the movements so far are entered, and with those of the records that are left they are all of the text
abbrev pub invariant-records : goal.invariant-records
invariant-records g l = record {
  so_far : List (List ℕ × Change);
  read : movements_in l.reading (names_now l.names) l.text ≡ so_far ++ map (movement_in l.reading.scale (columns_by place l.columns)) (left l.sheet);
  entered : EntersFile l.fn.file so_far l.fn.ledger.refusals.items l.fn.ledger.stock l.ledger.refusals.items l.ledger.stock;
}

-- a record less is left
abbrev pub decreases-records : goal.decreases-records
decreases-records g l = length (left l.sheet)
