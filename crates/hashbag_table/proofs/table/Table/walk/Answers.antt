use Rattle.std.proofs.Common.{◌≡◌, ◌++◌, drop, ap, sym, subst}
use Rattle.std.specs.List.Sorted.{IsPermutation}
use Rattle.hashbag_slots.specs.Slots.{entries}
use Rattle.hashbag_table.specs.Tables.{entries_of}
use Rattle.hashbag_table.proofs.SlotLemmas.{entries-drop}
use Rattle.hashbag_table.proofs.table.Table.walk.Goals as goal

pub returns-clause-entries : goal.returns-clause-entries
returns-clause-entries g c =
    let i = c.self.inside in let t = c.self.invariant.kept.tables in
    let same : entries_of i.newer.slots (drop i.carried_to i.older.slots) ≡ entries_of i.newer.slots i.older.slots =
    ap (λ es. entries i.newer.slots ++ es) (entries-drop i.older.slots i.carried_to t.carried_within t.carried_not_live) in
    subst (λ m. IsPermutation m.entries c.walk.result) c.self.view_is (subst (λ es. IsPermutation es c.walk.result) (sym same) c.walk.ensures.entries)
