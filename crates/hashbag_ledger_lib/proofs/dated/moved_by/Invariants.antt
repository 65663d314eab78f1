use Rattle.std.proofs.Common.{◌≡◌, ◌++◌, length, map}
use Rattle.hashbag_ledger_lib.specs.Dated.{counting_by, moved, with_bytes}
use Rattle.hashbag_ledger_lib.proofs.dated.moved_by.Given as goal

-- the articles so far, and those of the entries that are left, are all
abbrev pub invariant-entries : goal.invariant-entries
invariant-entries l = map with_bytes l.list.items ++ map (moved l.part) (counting_by l.date l.left) ≡ map (moved l.part) (counting_by l.date l.fn.entries)

-- an entry less is left
abbrev pub decreases-entries : goal.decreases-entries
decreases-entries l = length l.left
