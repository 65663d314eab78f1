use Rattle.std.proofs.Common.{◌≡◌, List, map, take}
use Rattle.hashbag_csv.specs.FirstLines.{Carried, HasFirsts}
use Rattle.hashbag_match_lib.specs.Shown.{bytes_row, entry_of, shown_rows, with_first}
use Rattle.hashbag_match_lib.proofs.shown.shown_rows.Given as goal

-- the rows so far
abbrev pub invariant-loop-row : goal.invariant-loop-row
invariant-loop-row g l = (K : List Carried) → HasFirsts g.A.PartialEq.eq g.A.Article.fields K l.firsts
    → map entry_of l.shown.items ≡ map (with_first K) (shown_rows l.only (map (bytes_row g.A.Article.fields) (take l.row-index l.rows)))
