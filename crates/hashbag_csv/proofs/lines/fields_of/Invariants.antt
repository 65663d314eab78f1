use Rattle.std.proofs.Common.{◌≡◌, map, take}
use Rattle.std.specs.String.{string_bytes}
use Rattle.hashbag_csv.specs.LineColumns.{last_fields}
use Rattle.hashbag_csv.proofs.lines.fields_of.Given as goal

abbrev pub invariant-loop-column : goal.invariant-loop-column
invariant-loop-column l = map string_bytes l.fields.items ≡ last_fields l.form (take l.column-index l.columns) l.sheet
