use Rattle.std.proofs.Common.{ℕ, List, take}
use Rattle.sha2.specs.Hashers.{Holds256}
use Rattle.hashbag_ledger_lib.specs.Seals.{with_movements}
use Rattle.hashbag_ledger_lib.proofs.sealing.add_movements.Given as goal

-- what the hasher held, and then the movements so far
abbrev pub invariant-loop-entry : goal.invariant-loop-entry
invariant-loop-entry l = (m : List ℕ) → Holds256 l.fn.hasher m → Holds256 l.hasher (with_movements m (take l.entry-index l.entries))
