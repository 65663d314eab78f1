use Rattle.std.proofs.Common.{◌≡◌, length, map}
use Rattle.hashbag_ledger_lib.specs.Kinds.{batch_number, numbers_of}
use Rattle.hashbag_ledger_lib.proofs.verifying.wrong_batch.Given as goal

-- all batches have their movements if those that are left have the movements that are left
abbrev pub invariant-batches : goal.invariant-batches
invariant-batches l = map batch_number l.left ≡ numbers_of l.rest → map batch_number l.fn.movements ≡ numbers_of l.fn.batches

-- the batches that are left
abbrev pub decreases-batches : goal.decreases-batches
decreases-batches l = length l.rest
