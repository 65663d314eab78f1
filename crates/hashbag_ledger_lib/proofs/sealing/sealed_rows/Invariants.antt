use Rattle.std.proofs.Common.{◌++◌, List, drop}
use Rattle.hashbag_ledger_lib.specs.declared.once.Batch.{Batch}
use Rattle.hashbag_ledger_lib.specs.Seals.{AreRowsOf}
use Rattle.hashbag_ledger_lib.proofs.sealing.sealed_rows.Given as goal

-- before the rows of the drafts that are left, those so far are the rows of all drafts
abbrev pub invariant-loop-draft : goal.invariant-loop-draft
invariant-loop-draft l = (more : List Batch) → AreRowsOf l.scale (drop l.draft-index l.drafts) l.left l.left_extras more → AreRowsOf l.scale l.drafts l.entries l.extras (l.rows.items ++ more)
