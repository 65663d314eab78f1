use Rattle.std.proofs.Common.{length, sym, ap, ◌∙◌}
use Rattle.hashbag_slots.proofs.Guards.{slots_are, slot_count}
use Rattle.hashbag_slots.proofs.Paths.{count_bound}
use Rattle.hashbag_slots.proofs.slots.Slots.slots.Goals as goal

pub returns-clause-value : goal.returns-clause-value
returns-clause-value g c =
    let i = c.self.inside in
    sym (slots_are g.T.PartialEq.eq i.slots i.tags.items i.cells i.live i.removed c.self.invariant) ∙ ap (λ s. length s.slots) c.self.view_is

pub returns-clause-count : goal.returns-clause-count
returns-clause-count g c = let i = c.self.inside in slot_count g.T.PartialEq.eq i.slots i.tags.items i.cells i.live i.removed c.self.invariant

pub returns-clause-bound : goal.returns-clause-bound
returns-clause-bound g c = let i = c.self.inside in count_bound i.slots (slot_count g.T.PartialEq.eq i.slots i.tags.items i.cells i.live i.removed c.self.invariant)
