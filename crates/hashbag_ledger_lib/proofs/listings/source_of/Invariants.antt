use Rattle.std.proofs.Common.{◌≡◌, length}
use Rattle.hashbag_ledger_lib.specs.Listings.{source_in}
use Rattle.hashbag_ledger_lib.proofs.listings.source_of.Given as goal

-- the batch is not among those that were passed
abbrev pub invariant-batches : goal.invariant-batches
invariant-batches l = source_in l.left l.number ≡ source_in l.fn.batches l.number

-- a batch less is left
abbrev pub decreases-batches : goal.decreases-batches
decreases-batches l = length l.left
