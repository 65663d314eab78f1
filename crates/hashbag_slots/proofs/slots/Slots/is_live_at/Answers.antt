use Rattle.std.proofs.Common.{◌<◌, length, get_or, sym, ap, ◌∙◌, arith, inl, inr, take}
use Rattle.std.proofs.lemmas.Bool.{cases_lt, le-leb, lt-leb}
use Rattle.std.proofs.lemmas.List.{get_or_read}
use Rattle.hashbag_slots.specs.Slots.{is_live, slot_at}
use Rattle.hashbag_slots.proofs.Guards.{stored, length-first, first_tag}
use Rattle.hashbag_slots.proofs.Reading.{length-slots_of, dead_at, alive_at}
use Rattle.hashbag_slots.proofs.slots.Slots.is_live_at.Goals as goal

pub index-requires : goal.index-requires
index-requires g c =
    let l = length-slots_of (take c.self.inside.slots c.self.inside.tags.items) c.self.inside.cells c.self.invariant.shown.agree.same_length in
    let v = ap (λ s. length s.slots) c.self.view_is in let k = c.self.inside.tags.ok.0 in let r = c.requires in
    let first = length-first c.self.inside.slots c.self.inside.tags.items c.self.invariant.guarded in let room = stored c.self.inside.slots c.self.inside.tags.items c.self.invariant.guarded in omega arith

pub returns-clause-live : goal.returns-clause-live
returns-clause-live g c =
    let ts = (take c.self.inside.slots c.self.inside.tags.items) in let cs = c.self.inside.cells in let agree = c.self.invariant.shown.agree in
    let within : c.args.place < length ts = let l = length-slots_of ts cs agree.same_length in let v = ap (λ s. length s.slots) c.self.view_is in let r = c.requires in omega arith in
    let first = length-first c.self.inside.slots c.self.inside.tags.items c.self.invariant.guarded in let room = stored c.self.inside.slots c.self.inside.tags.items c.self.invariant.guarded in
    let tag = get_or_read c.self.inside.tags.items c.args.place c.index.result.now (omega arith) c.index.ensures 0 ∙ sym (first_tag c.self.inside.slots c.self.inside.tags.items c.self.invariant.guarded c.args.place (omega arith)) in
    elim (cases_lt (get_or ts c.args.place 0) 128) [
      | inl low ↦ lt-leb 128 c.index.result.now (omega arith) ∙ sym (dead_at ts cs agree c.args.place low) ∙ ap (λ s. is_live (slot_at s.slots c.args.place)) c.self.view_is
      | inr high ↦ le-leb 128 c.index.result.now (omega arith) ∙ sym (alive_at ts cs agree c.args.place high) ∙ ap (λ s. is_live (slot_at s.slots c.args.place)) c.self.view_is
    ]
