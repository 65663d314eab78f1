use Rattle.std.proofs.Common.{◌≡◌, drop}
use Rattle.hashbag_ledger_db.specs.Once.{has_rows}
use Rattle.hashbag_ledger_db.proofs.movements.has_rows.Given as goal

-- no line end so far
abbrev pub invariant-loop-i : goal.invariant-loop-i
invariant-loop-i l = has_rows l.text ≡ has_rows (drop l.i l.text)
