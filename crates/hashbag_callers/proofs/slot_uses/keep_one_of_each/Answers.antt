use Rattle.std.proofs.Common.{ap, ◌∙◌}
use Rattle.hashbag.specs.Retained.{slot_retained}
use Rattle.hashbag_callers.proofs.SlotUseLemmas.{dead_kept}
use Rattle.hashbag_callers.proofs.slot_uses.keep_one_of_each.Goals as goal

pub returns-clause-not_live : goal.returns-clause-not_live
returns-clause-not_live g c p s dead =
    let each = c.retain.ensures.in_place.newer.each p in
    each.1 ∙ ap (slot_retained each.0) dead.0 ∙ dead_kept each.0 s dead.1
