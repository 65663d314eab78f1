use Rattle.std.proofs.Common.{sym, ap, ◌∙◌, take}
use Rattle.hashbag_slots.specs.Slots.{is_live, slot_entry, slot_at}
use Rattle.hashbag_slots.proofs.Reading.{tagged_at, live_at}
use Rattle.hashbag_slots.proofs.slots.Slots.live_at.Goals as goal

pub get-requires : goal.get-requires
get-requires g c =
    let m = tagged_at (take c.self.inside.slots c.self.inside.tags.items) c.self.inside.cells c.self.invariant.shown.agree c.args.place (ap (λ s. is_live (slot_at s.slots c.args.place)) c.self.view_is ∙ c.requires) in
    (m.1, m.2)

pub returns : goal.returns
returns g c =
    let ts = (take c.self.inside.slots c.self.inside.tags.items) in let cs = c.self.inside.cells in
    sym (ap (λ s. slot_entry (slot_at s.slots c.args.place)) (sym c.self.view_is) ∙ ap slot_entry (live_at ts cs c.self.invariant.shown.agree c.args.place c.get.result.now c.get.ensures))
