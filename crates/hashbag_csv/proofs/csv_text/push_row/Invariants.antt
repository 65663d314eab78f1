use Rattle.std.proofs.Common.{◌≡◌, map, take}
use Rattle.std.specs.String.{string_bytes}
use Rattle.hashbag_csv.specs.Written.{field_bytes}
use Rattle.hashbag_csv.proofs.csv_text.push_row.Given as goal

-- the fields so far
abbrev pub invariant-loop-text : goal.invariant-loop-text
invariant-loop-text l = field_bytes l.fields ≡ map string_bytes (take l.text-index l.text-items)
