use Rattle.std.proofs.Common.{◌∷◌, ◌++◌, [], ℕ, List, length, arith, sym, ap, subst}
use Rattle.hashbag_csv.specs.Sheets.{left, place, read_last}
use Rattle.hashbag_ledger_lib.specs.declared.movements.Change.{Change}
use Rattle.hashbag_ledger_lib.specs.Movements.{columns_by, movement_in, content_of, EntersFile}
use Rattle.hashbag_ledger_lib.proofs.ReadLemmas.{all_read, enters_none, enters_one, one_read, under_header}
use Rattle.hashbag_ledger_lib.proofs.reading.enter_movements.Goals as goal

-- all records are left
pub records-init : goal.records-init
records-init g c = record {
  so_far = [];
  read = under_header c.args.reading.scale c.args.names _ (read_last c.in_ok-sheet.sheet) (left c.in_ok-sheet.sheet) (columns_by place c.in_ok-columns.columns) c.in_ok-sheet.ensures c.in_ok-columns.ensures;
  entered = enters_none c.args.file c.args.ledger.now.refusals.items c.args.ledger.now.stock;
}

-- one movement more
pub records-preserved : goal.records-preserved
records-preserved g c =
    let m = c.in-Some.movement in
    let (r, next, same) = rw c.in-Some.is at c.in_ok-movement.ensures.read in
    let f = movement_in c.args.reading.scale (columns_by place c.in_ok-columns.columns) in
    record {
      so_far = c.records.invariant.so_far ++ content_of m ∷ [];
      read = one_read f _ c.records.invariant.so_far (left c.records.sheet) (left c.next_movement.new.sheet) r (content_of m) c.records.invariant.read next same;
      entered = enters_one c.args.file c.records.invariant.so_far m c.enter_record.new.ledger.refusals.items c.enter_record.new.ledger.stock c.records.invariant.entered (rw c.in-Some.is at c.in_ok-movement.ensures.place) c.in_ok-enter_record.ensures;
    }

-- a record less is left
pub records-smaller : goal.records-smaller
records-smaller g c =
    let (r, next, same) = rw c.in-Some.is at c.in_ok-movement.ensures.read in
    let long = ap length next in
    omega (arith, long)

-- no record is left
pub returns : goal.returns
returns g c =
    let none = rw c.in_default.is at c.in_ok-movement.ensures.read in
    let done = all_read (movement_in c.args.reading.scale (columns_by place c.in_ok-columns.columns)) _ c.records.invariant.so_far (left c.records.sheet) c.records.invariant.read none in
    subst (λ (l : List (List ℕ × Change)). EntersFile c.args.file l c.args.ledger.now.refusals.items c.args.ledger.now.stock c.records.ledger.refusals.items c.records.ledger.stock) (sym done) c.records.invariant.entered
