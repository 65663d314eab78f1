use Rattle.std.proofs.Common.{ℕ, List, take}
use Rattle.sha2.specs.Hashers.{Holds256}
use Rattle.hashbag_ledger_lib.specs.Seals.{with_extras}
use Rattle.hashbag_ledger_lib.proofs.sealing.add_extras.Given as goal

-- what the hasher held, and then the dates and notes so far
abbrev pub invariant-loop-i : goal.invariant-loop-i
invariant-loop-i l = (m : List ℕ) → Holds256 l.fn.hasher m → Holds256 l.hasher (with_extras m 0 (take l.i l.extras))
