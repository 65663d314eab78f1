use Rattle.std.proofs.Common.{◌≡◌, ◌++◌, map, take}
use Rattle.hashbag_ledger_db.specs.Statements.{changed, runs_of}
use Rattle.hashbag_ledger_db.proofs.stock.statements.push_rows.Given as goal

-- the changes so far are listed
abbrev pub invariant-loop-change : goal.invariant-loop-change
invariant-loop-change l = runs_of l.list.items ≡ runs_of l.fn.list.items ++ map changed (take l.change-index l.changed)
