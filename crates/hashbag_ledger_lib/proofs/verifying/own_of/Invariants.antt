use Rattle.std.proofs.Common.{◌≡◌, map, replicate, take}
use Rattle.hashbag_ledger_lib.specs.Kinds.{batch_number}
use Rattle.hashbag_ledger_lib.proofs.verifying.own_of.Given as goal

-- those so far are of the batch
abbrev pub invariant-loop-i : goal.invariant-loop-i
invariant-loop-i l = map batch_number (take l.i l.movements) ≡ replicate l.i l.batch
