use Rattle.std.proofs.Common.{◌∙◌}
use Rattle.hashbag_csv.proofs.sheet.Sheet.open_lines.Goals as goal

-- the first record was read
pub returns-then-branch-clause-records : goal.returns-then-branch-clause-records
returns-then-branch-clause-records c = c.in_ok-sheet.ensures.left ∙ rw c.if-branch.true at c.in_ok-read_next.ensures.next
