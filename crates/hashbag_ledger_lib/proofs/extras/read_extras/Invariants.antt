use Rattle.std.proofs.Common.{◌≡◌, ◌++◌, All, length, map}
use Rattle.hashbag_csv.specs.Sheets.{left, place}
use Rattle.hashbag_ledger_lib.specs.Extras.{carried, columns_of, extra_in, extras_in, HasNoBadDate}
use Rattle.hashbag_ledger_lib.proofs.extras.read_extras.Given as goal

-- those so far have dates that are dates, and with those of the records that are left they are all of the text
abbrev pub invariant-records : goal.invariant-records
invariant-records l = record {
  dates : All HasNoBadDate l.extras.items;
  read : extras_in l.fn.delimiter l.form (columns_of (λ n. n.now) l.names) l.text ≡ map carried l.extras.items ++ map (extra_in l.form (columns_of place l.columns)) (left l.sheet);
}

-- a record less is left
abbrev pub decreases-records : goal.decreases-records
decreases-records l = length (left l.sheet)
