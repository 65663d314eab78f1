use Rattle.std.proofs.Common.{sym, ◌∙◌, arith}
use Rattle.hashbag_table.proofs.Emptied.{all_empty}
use Rattle.hashbag_table.proofs.capacity.clear_slots.Goals as goal

pub returns-else-removed-gt0-clause-slots : goal.returns-else-removed-gt0-clause-slots
returns-else-removed-gt0-clause-slots g c =
    let a = c.if-live-gt0.false in let b = c.if-removed-gt0.false in
    all_empty c.args.slots.now.slots (sym c.live.ensures ∙ omega arith) (sym c.removed.ensures ∙ omega arith) c.requires.unmoved
