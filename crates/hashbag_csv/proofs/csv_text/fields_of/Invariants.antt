use Rattle.std.proofs.Common.{◌≡◌, map, take}
use Rattle.hashbag_csv.specs.Written.{field_bytes}
use Rattle.hashbag_csv.proofs.csv_text.fields_of.Given as goal

-- the fields so far
abbrev pub invariant-loop-name : goal.invariant-loop-name
invariant-loop-name l = field_bytes l.fields ≡ map (λ n. n.now) (take l.name-index l.names)
