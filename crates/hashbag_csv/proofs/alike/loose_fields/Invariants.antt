use Rattle.std.proofs.Common.{◌≡◌, map, take}
use Rattle.std.specs.String.{string_bytes}
use Rattle.hashbag_csv.specs.Alike.{loosely}
use Rattle.hashbag_csv.proofs.alike.loose_fields.Given as goal

abbrev pub invariant-loop-field : goal.invariant-loop-field
invariant-loop-field l = map string_bytes l.loose.items ≡ loosely (map string_bytes (take l.field-index l.fields))
