use Rattle.std.proofs.Common.{◌≡◌, ◌++◌, List, length, map}
use Rattle.hashbag_csv.specs.FirstLines.{Carried, HasFirsts, carried_by}
use Rattle.hashbag_csv.specs.Sheets.{left}
use Rattle.hashbag_csv.proofs.first_lines.add_lines.Given as goal

-- the lines so far are added, after those before
abbrev pub invariant-lines : goal.invariant-lines
invariant-lines g l = record {
  D : List Carried;
  all : map (carried_by l.form l.columns) (left l.fn.sheet) ≡ D ++ map (carried_by l.form l.columns) (left l.sheet);
  so_far : (K : List Carried) → HasFirsts g.A.PartialEq.eq g.A.Article.fields K l.fn.firsts → HasFirsts g.A.PartialEq.eq g.A.Article.fields (K ++ D) l.firsts;
}

-- a record less is left
abbrev pub decreases-lines : goal.decreases-lines
decreases-lines g l = length (left l.sheet)
