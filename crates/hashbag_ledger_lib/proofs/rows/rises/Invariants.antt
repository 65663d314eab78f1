use Rattle.std.proofs.Common.{◌↔◌, length}
use Rattle.hashbag_ledger_lib.specs.Changes.{Rises}
use Rattle.hashbag_ledger_lib.proofs.rows.rises.Given as goal

-- the balance is in ascending order exactly if the rows that are left are
abbrev pub invariant-rows : goal.invariant-rows
invariant-rows l = Rises l.rest ↔ Rises l.fn.balance

-- the rows that are left
abbrev pub decreases-rows : goal.decreases-rows
decreases-rows l = length l.rest
