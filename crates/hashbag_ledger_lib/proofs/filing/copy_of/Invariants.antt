use Rattle.std.proofs.Common.{◌≡◌, take}
use Rattle.hashbag_ledger_lib.specs.Rows.{rows_of}
use Rattle.hashbag_ledger_lib.proofs.filing.copy_of.Given as goal

-- the rows so far
abbrev pub invariant-loop-entry : goal.invariant-loop-entry
invariant-loop-entry l = rows_of l.copy.items ≡ rows_of (take l.entry-index l.balance)
