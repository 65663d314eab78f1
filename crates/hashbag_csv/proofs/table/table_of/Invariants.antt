use Rattle.std.proofs.Common.{◌≡◌, ◌++◌, flat_map, map, take}
use Rattle.std.specs.String.{string_bytes}
use Rattle.hashbag_csv.specs.Tables.{cell_bytes, first_row, is_text, line_text, row_line, width_in}
use Rattle.hashbag_csv.proofs.table.table_of.Given as goal

-- the titles, and the rows so far
abbrev pub invariant-loop-value : goal.invariant-loop-value
invariant-loop-value g l =
    let row = g.L.Listing.line l.listing in
    string_bytes l.table ≡ line_text (is_text (first_row (map row l.values))) (width_in l.widths) (cell_bytes l.titles) ++ flat_map (row_line (width_in l.widths)) (map row (take l.value-index l.values))
