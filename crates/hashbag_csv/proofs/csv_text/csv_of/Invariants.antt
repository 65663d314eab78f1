use Rattle.std.proofs.Common.{◌∷◌, map, take}
use Rattle.hashbag_csv.specs.Cells.{text_of_cell}
use Rattle.hashbag_csv.specs.Written.{HasWritten}
use Rattle.hashbag_csv.proofs.csv_text.csv_of.Given as goal

-- the header, and the records of the rows so far
abbrev pub invariant-loop-value : goal.invariant-loop-value
invariant-loop-value g l = HasWritten l.fn.delimiter (g.L.Listing.columns l.listing ∷ map (map text_of_cell) (map (g.L.Listing.line l.listing) (take l.value-index l.values))) l.writer
