use Rattle.std.proofs.Common.{ℕ, ◌<◌}
use Rattle.hashbag_ledger_db.specs.Once.{IsNewAt}
use Rattle.hashbag_ledger_db.proofs.before.entered_twice.Given as goal

-- the inputs so far are new
abbrev pub invariant-loop-i : goal.invariant-loop-i
invariant-loop-i l = (k : ℕ) → k < l.i → IsNewAt l.inputs l.batches k
