use Rattle.std.proofs.Common.{◌≡◌, ℕ, List, ◌++◌, length}
use Rattle.std.specs.List.Sorted.{IsPermutation}
use Rattle.hashbag_table.specs.Entries.{HasClones, IsCounted}
use Rattle.hashbag_table.proofs.CloneLemmas.{IsCopy}
use Rattle.hashbag_table.proofs.PackedLemmas.{IsFilled}
use Rattle.hashbag_table.proofs.table.Table.clone_in.Given as goal

-- the entries so far were cloned, and the others are still to come; each took a place of the table that was made for all
abbrev pub invariant-loop-value : goal.invariant-loop-value
invariant-loop-value g l =
    ((done : List (g.row.T.Denot × ℕ)) × IsPermutation l.self.entries (done ++ l.value-iterator) × HasClones (IsCopy {eq = g.T.PartialEq.eq} g.met.T.Eq.laws g.T.Clone.is_clone) done l.table.entries
    × IsFilled l.table.tables l.initial.table.tables (length done))
    × (l.table.hasher ≡ l.initial.table.hasher)
    × IsCounted g.T.PartialEq.eq l.table.entries
