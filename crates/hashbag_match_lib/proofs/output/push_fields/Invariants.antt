use Rattle.std.proofs.Common.{◌≡◌, ◌++◌, map, take}
use Rattle.std.specs.String.{string_bytes}
use Rattle.hashbag_csv.specs.Cells.{cells_of}
use Rattle.hashbag_csv.specs.declared.cells.Cell.TheVariants.{Text}
use Rattle.hashbag_match_lib.proofs.output.push_fields.Given as goal

-- the cells so far
abbrev pub invariant-loop-field : goal.invariant-loop-field
invariant-loop-field l = cells_of l.cells ≡ cells_of l.fn.cells ++ map Text (map string_bytes (take l.field-index l.fields))
