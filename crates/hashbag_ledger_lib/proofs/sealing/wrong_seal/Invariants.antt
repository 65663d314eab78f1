use Rattle.std.proofs.Common.{◌↔◌, length}
use Rattle.hashbag_ledger_lib.specs.Seals.{AreSealed}
use Rattle.hashbag_ledger_lib.proofs.sealing.wrong_seal.Given as goal

-- all batches have their seals exactly if those that are left have
abbrev pub invariant-batches : goal.invariant-batches
invariant-batches l = AreSealed l.scale l.rest l.left l.left_extras ↔ AreSealed l.scale l.fn.batches l.fn.entries l.fn.extras

-- the batches that are left
abbrev pub decreases-batches : goal.decreases-batches
decreases-batches l = length l.rest
