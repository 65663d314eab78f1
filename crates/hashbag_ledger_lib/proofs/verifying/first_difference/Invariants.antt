use Rattle.std.proofs.Common.{◌≡◌, ℕ, ◌<◌, slice_get}
use Rattle.hashbag_ledger_lib.specs.Rows.{rows_of}
use Rattle.hashbag_ledger_lib.proofs.verifying.first_difference.Given as goal

-- the rows so far are the same
abbrev pub invariant-rows : goal.invariant-rows
invariant-rows l = (k : ℕ) → k < l.i → slice_get (rows_of l.kept) k ≡ slice_get (rows_of l.counted) k
