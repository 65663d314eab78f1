use Rattle.std.proofs.Common.{◌≡◌, ◌++◌, map, take}
use Rattle.hashbag_ledger_lib.specs.Counts.{none_counted}
use Rattle.hashbag_ledger_lib.specs.Movements.{content_of}
use Rattle.hashbag_ledger_lib.proofs.counting.name_all.Given as goal

-- the articles of the balance so far
abbrev pub invariant-loop-entry : goal.invariant-loop-entry
invariant-loop-entry l = map content_of l.records.items ≡ map content_of l.fn.records.items ++ map none_counted (take l.entry-index l.kept)
