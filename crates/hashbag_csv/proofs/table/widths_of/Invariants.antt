use Rattle.std.proofs.Common.{◌∷◌, map, take}
use Rattle.hashbag_csv.specs.Tables.{cell_bytes, shown_rows}
use Rattle.hashbag_csv.specs.Widths.{AreWidths}
use Rattle.hashbag_csv.proofs.table.widths_of.Given as goal

-- the widths of the columns of the titles, and of the rows so far
abbrev pub invariant-loop-value : goal.invariant-loop-value
invariant-loop-value g l = AreWidths (cell_bytes l.titles ∷ shown_rows (map (g.L.Listing.line l.listing) (take l.value-index l.values))) l.widths.items
