use Rattle.std.proofs.Common.{◌≡◌, ℕ, ◌<◌, map, slice_get}
use Rattle.hashbag_ledger_lib.specs.Rows.{kept_of}
use Rattle.hashbag_ledger_lib.proofs.verifying.wrong_refusal.Given as goal

-- the refusals so far are the same
abbrev pub invariant-refusals : goal.invariant-refusals
invariant-refusals l = (k : ℕ) → k < l.i → slice_get l.kept k ≡ slice_get (map kept_of l.counted) k
