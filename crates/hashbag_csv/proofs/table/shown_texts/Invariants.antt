use Rattle.std.proofs.Common.{◌≡◌, map, take}
use Rattle.hashbag_csv.specs.Cells.{lent_cell}
use Rattle.hashbag_csv.specs.Tables.{cell_bytes, shown_cell}
use Rattle.hashbag_csv.proofs.table.shown_texts.Given as goal

-- the texts so far
abbrev pub invariant-loop-cell : goal.invariant-loop-cell
invariant-loop-cell l = cell_bytes l.texts ≡ map shown_cell (map lent_cell (take l.cell-index l.cells))
