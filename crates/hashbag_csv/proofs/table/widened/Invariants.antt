use Rattle.std.proofs.Common.{◌≡◌, ◌<◌, ℕ, [], length, get_or, max}
use Rattle.hashbag_csv.specs.Tables.{cell_bytes}
use Rattle.hashbag_csv.specs.Widths.{width_of}
use Rattle.hashbag_csv.proofs.table.widened.Given as goal

-- the widths so far
abbrev pub invariant-loop-index : goal.invariant-loop-index
invariant-loop-index l = (length l.wide.items ≡ l.index)
    × ((k : ℕ) → k < l.index → get_or l.wide.items k 0 ≡ max (get_or l.widths.items k 0) (width_of (get_or (cell_bytes l.cells) k [])))
