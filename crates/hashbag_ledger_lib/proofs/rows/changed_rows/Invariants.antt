use Rattle.std.proofs.Common.{◌+◌, length}
use Rattle.hashbag_ledger_lib.specs.Changes.{Begins}
use Rattle.hashbag_ledger_lib.proofs.rows.changed_rows.Given as goal

-- before the changes of the rows that are left, those so far are the changes of all rows
abbrev pub invariant-rows : goal.invariant-rows
invariant-rows l = Begins l.fn.before l.fn.after l.changes.items l.old l.new

-- the rows that are left
abbrev pub decreases-rows : goal.decreases-rows
decreases-rows l = length l.old + length l.new
