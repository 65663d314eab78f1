use Rattle.std.proofs.Common.{◌≤◌, ◌+◌, length, subst}
use Rattle.hashbag_slots.specs.Slots.{live_count, removed_count}
use Rattle.hashbag_table.specs.Tables.{most_used}
use Rattle.hashbag_table.proofs.table.Table.slots.Goals as goal

pub returns-clause-fits : goal.returns-clause-fits
returns-clause-fits g c =
    let f = c.self.invariant.kept.tables.fits in
    subst (λ t. live_count t.tables.newer + removed_count t.tables.newer + live_count t.tables.waiting ≤ most_used (length t.tables.newer)) c.self.view_is f
