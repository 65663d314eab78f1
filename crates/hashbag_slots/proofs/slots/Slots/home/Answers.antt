use Rattle.std.proofs.Common.{◌≡◌, length, ap, ◌∙◌, arith}
use Rattle.hashbag_slots.specs.Slots.{path_slot}
use Rattle.hashbag_slots.proofs.Guards.{slots_are, slot_count}
use Rattle.hashbag_slots.proofs.Paths.{home_mask}
use Rattle.hashbag_slots.proofs.slots.Slots.home.Goals as goal

pub returns : goal.returns
returns g c =
    let i = c.self.inside in let eq = g.T.PartialEq.eq in
    let are = slots_are eq i.slots i.tags.items i.cells i.live i.removed c.self.invariant in let seen = ap (λ s. length s.slots) c.self.view_is in let r = c.requires in
    let same : i.slots ≡ length c.args.self.now.slots = omega arith in
    home_mask i.slots c.args.hash (slot_count eq i.slots i.tags.items i.cells i.live i.removed c.self.invariant) (omega arith) ∙ ap (λ n. path_slot n c.args.hash 0) same
