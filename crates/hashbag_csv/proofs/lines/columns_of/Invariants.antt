use Rattle.std.proofs.Common.{◌≡◌, map, take}
use Rattle.hashbag_csv.specs.LineColumns.{place_named}
use Rattle.hashbag_csv.specs.Sheets.{place}
use Rattle.hashbag_csv.proofs.lines.columns_of.Given as goal

abbrev pub invariant-loop-name : goal.invariant-loop-name
invariant-loop-name l = map place l.columns.items ≡ map (place_named l.sheet) (take l.name-index l.names)
