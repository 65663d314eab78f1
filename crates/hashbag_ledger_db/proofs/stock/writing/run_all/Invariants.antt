use Rattle.std.proofs.Common.{◌≡◌, take}
use Rattle.sqlite.specs.Held.{state}
use Rattle.sqlite.specs.State.{HasCleanDisk}
use Rattle.hashbag_ledger_db.specs.Commits.{IsInside, RunsAll}
use Rattle.hashbag_ledger_db.specs.Statements.{runs_of}
use Rattle.hashbag_ledger_db.proofs.stock.writing.run_all.Given as goal

-- the statements so far ran inside the transaction
abbrev pub invariant-loop-statement : goal.invariant-loop-statement
invariant-loop-statement g l = record {
  same_connection : l.transaction.conn.ghost_name ≡ l.fn.transaction.conn.ghost_name;
  inside : IsInside (state g.S.Store l.fn.transaction.conn.now) (state g.S.Store l.transaction.conn.now);
  ran : HasCleanDisk (state g.S.Store l.transaction.conn.now) → RunsAll g.S.Store (runs_of (take l.statement-index l.statements)) l.fn.transaction.conn.now l.transaction.conn.now;
}
