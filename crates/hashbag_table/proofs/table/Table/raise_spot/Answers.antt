use Rattle.std.proofs.Common.{ap, arith}
use Rattle.hashbag_slots.specs.Slots.{slot_entry}
use Rattle.hashbag_slots.proofs.Walking.{live_entry}
use Rattle.hashbag_table.specs.Tables.{slot_in}
use Rattle.hashbag_table.proofs.table.Table.raise_spot.Goals as goal

pub overflow_add-before : goal.overflow_add-before
overflow_add-before g c =
    let live = live_entry (slot_in c.args.self.now.tables c.args.spot) c.requires.live in
    let is = c.count_at-before.ensures.count (live.0, live.1) (ap slot_entry live.2) in
    let fits = c.requires.fits (live.0, live.1) (ap slot_entry live.2) in
    record { fits = omega arith }
