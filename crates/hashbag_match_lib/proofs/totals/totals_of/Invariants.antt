use Rattle.std.proofs.Common.{◌≡◌, ◌≤◌, not, count_by, sum_by, take}
use Rattle.hashbag_match_lib.specs.Matching.{missing_of, surplus_of, agrees}
use Rattle.hashbag_match_lib.proofs.totals.totals_of.Given as goal

-- the sums of the rows so far
abbrev pub invariant-loop-row : goal.invariant-loop-row
invariant-loop-row g l = record {
  missing : l.missing ≡ sum_by missing_of (take l.row-index l.rows);
  surplus : l.surplus ≡ sum_by surplus_of (take l.row-index l.rows);
  differing : l.differing ≡ count_by (λ row. not (agrees row)) (take l.row-index l.rows);
  few : l.differing ≤ l.row-index;
}
