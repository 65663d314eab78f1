use Rattle.std.proofs.Common.{◌+◌, ◌<◌, ◌∙◌, length, get_or, leb, ap, subst, arith, take}
use Rattle.hashbag_slots.specs.Group.{IsMaskOf}
use Rattle.hashbag_slots.specs.Slots.{is_live, slot_at}
use Rattle.hashbag_slots.specs.Columns.{slots_of}
use Rattle.hashbag_slots.proofs.GroupLemmas.{tells_same}
use Rattle.hashbag_slots.proofs.Guards.{stored, same_live, slots_are}
use Rattle.hashbag_slots.proofs.Reading.{live_by_tag}
use Rattle.hashbag_slots.proofs.slots.Slots.live_among.Goals as goal

pub match_live-requires : goal.match_live-requires
match_live-requires g c =
    let i = c.self.inside in
    let l = slots_are g.T.PartialEq.eq i.slots i.tags.items i.cells i.live i.removed c.self.invariant in
    let v = ap (λ s. length s.slots) c.self.view_is in let k = ap length c.as_slice.ensures.value in let r = c.requires in
    let room = stored i.slots i.tags.items c.self.invariant.guarded in omega arith

pub returns : goal.returns
returns g c =
    let i = c.self.inside in let all = i.tags.items in let ts = take i.slots all in let cs = i.cells in let from = c.args.from in let bits = c.match_live.result in
    let told = subst (λ us. IsMaskOf (λ p. leb 128 (get_or us p 0)) from (from + 16) bits) c.as_slice.ensures.value c.match_live.ensures in
    let l = slots_are g.T.PartialEq.eq i.slots all cs i.live i.removed c.self.invariant in let v = ap (λ s. length s.slots) c.self.view_is in let r = c.requires in
    let some : 0 < i.slots = omega arith in
    subst (λ s. IsMaskOf (λ p. is_live (slot_at s.slots p)) from (from + 16) bits) c.self.view_is
    (tells_same (λ p. leb 128 (get_or all p 0)) (λ p. is_live (slot_at (slots_of ts cs) p)) from (from + 16) bits (λ p _. same_live i.slots all c.self.invariant.guarded some p ∙ live_by_tag ts cs c.self.invariant.shown.agree p) told)
