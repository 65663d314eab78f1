use Rattle.std.proofs.Common.{◌≡◌, ◌++◌, drop}
use Rattle.hashbag_ledger_db.specs.Statements.{batch_runs, runs_of}
use Rattle.hashbag_ledger_db.proofs.stock.statements.push_batches.Given as goal

-- what is listed so far, before the batches that are left, is what was listed, before all batches
abbrev pub invariant-loop-row : goal.invariant-loop-row
invariant-loop-row l = runs_of l.list.items ++ batch_runs l.first (drop l.row-index l.new.batches.now) l.left l.left_extras ≡ runs_of l.fn.list.items ++ batch_runs l.new.first l.new.batches.now l.new.entries.now l.new.extras.now
