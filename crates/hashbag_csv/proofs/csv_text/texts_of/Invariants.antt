use Rattle.std.proofs.Common.{◌≡◌, map, take}
use Rattle.std.specs.String.{string_bytes}
use Rattle.hashbag_csv.specs.Cells.{lent_cell, text_of_cell}
use Rattle.hashbag_csv.proofs.csv_text.texts_of.Given as goal

-- the texts so far
abbrev pub invariant-loop-cell : goal.invariant-loop-cell
invariant-loop-cell l = map string_bytes l.texts.items ≡ map text_of_cell (map lent_cell (take l.cell-index l.cells))
