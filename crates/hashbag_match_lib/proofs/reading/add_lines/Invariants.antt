use Rattle.std.proofs.Common.{◌≡◌, ◌++◌, ℕ, List, All, length, map, true}
use Rattle.hashbag_csv.specs.LineColumns.{line_by, HasNumberBy}
use Rattle.hashbag_csv.specs.Readers.{Record}
use Rattle.hashbag_csv.specs.Sheets.{fits_sheet, is_short_allowed, left, width_of}
use Rattle.hashbag_match_lib.specs.Fields.{IsTallyOfLines}
use Rattle.hashbag_match_lib.proofs.reading.add_lines.Given as goal

-- the lines so far are tallied, after those before; all records fit if those that are left do
abbrev pub invariant-lines : goal.invariant-lines
invariant-lines g l = record {
  D : List (Record × ℕ);
  all : map (line_by l.scale l.columns) (left l.fn.sheet) ≡ D ++ map (line_by l.scale l.columns) (left l.sheet);
  so_far : (K : List (Record × ℕ)) → IsTallyOfLines g.A.PartialEq.eq g.A.Article.fields K l.fn.tally.counts l.fn.tally.zeros → IsTallyOfLines g.A.PartialEq.eq g.A.Article.fields (K ++ D) l.tally.counts l.tally.zeros;
  width : width_of l.sheet ≡ width_of l.fn.sheet;
  short : is_short_allowed l.sheet ≡ is_short_allowed l.fn.sheet;
  numbers : All (HasNumberBy l.scale l.columns) (left l.sheet) → All (HasNumberBy l.scale l.columns) (left l.fn.sheet);
  fit : All (λ r. fits_sheet l.fn.sheet r ≡ true) (left l.sheet) → All (λ r. fits_sheet l.fn.sheet r ≡ true) (left l.fn.sheet);
}

-- a record less is left
abbrev pub decreases-lines : goal.decreases-lines
decreases-lines g l = length (left l.sheet)
