use Rattle.std.proofs.Common.{◌≡◌, ◌+◌, ◌++◌, drop}
use Rattle.hashbag_ledger_db.specs.Statements.{entry_runs, runs_of}
use Rattle.hashbag_ledger_db.proofs.stock.statements.push_entries.Given as goal

-- what is listed so far, before the movements that are left, is what was listed, before all movements
abbrev pub invariant-loop-i : goal.invariant-loop-i
invariant-loop-i l = runs_of l.list.items ++ entry_runs (l.first + l.i) l.batch (drop l.i l.entries) (drop l.i l.extras) ≡ runs_of l.fn.list.items ++ entry_runs l.first l.batch l.entries l.extras
