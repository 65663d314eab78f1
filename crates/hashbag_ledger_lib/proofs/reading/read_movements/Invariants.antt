use Rattle.std.proofs.Common.{◌≡◌, ◌++◌, All, length, map}
use Rattle.hashbag_csv.specs.Sheets.{left, place}
use Rattle.hashbag_ledger_lib.specs.Movements.{columns_by, movement_in, movements_in, content_of, names_now}
use Rattle.hashbag_ledger_lib.proofs.reading.read_movements.Given as goal

-- the movements so far are of this file, and with those of the records that are left all of the text
abbrev pub invariant-records : goal.invariant-records
invariant-records l = record {
  places : All (λ m. m.place.file ≡ l.fn.file) l.movements.items;
  read : movements_in l.reading (names_now l.names) l.text ≡ map content_of l.movements.items ++ map (movement_in l.reading.scale (columns_by place l.columns)) (left l.sheet);
}

-- a record less is left
abbrev pub decreases-records : goal.decreases-records
decreases-records l = length (left l.sheet)
