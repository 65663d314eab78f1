use Rattle.std.proofs.Common.{◌≡◌, ◌++◌, drop, map}
use Rattle.std.specs.String.{string_bytes}
use Rattle.hashbag_csv.specs.Cells.{lent_cell}
use Rattle.hashbag_csv.specs.Tables.{cell_bytes, is_text, line_from, line_text, width_in}
use Rattle.hashbag_csv.proofs.table.push_line.Given as goal

-- the cells so far, and those that are left
abbrev pub invariant-loop-index : goal.invariant-loop-index
invariant-loop-index l =
    let texts = is_text (map lent_cell l.cells) in
    string_bytes l.table ++ line_from texts (width_in l.widths) l.index (drop l.index (cell_bytes l.texts))
    ≡ string_bytes l.fn.table ++ line_text texts (width_in l.widths) (cell_bytes l.texts)
