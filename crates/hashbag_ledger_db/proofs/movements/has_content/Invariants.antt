use Rattle.std.proofs.Common.{◌≡◌, drop}
use Rattle.hashbag_ledger_db.specs.Once.{has_content}
use Rattle.hashbag_ledger_db.proofs.movements.has_content.Given as goal

-- each byte so far ends a line
abbrev pub invariant-loop-i : goal.invariant-loop-i
invariant-loop-i l = has_content l.bytes ≡ has_content (drop l.i l.bytes)
