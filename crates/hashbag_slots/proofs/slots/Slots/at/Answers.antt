use Rattle.std.proofs.Common.{◌≡◌, ◌<◌, length, get_or, sym, ap, ◌∙◌, arith, take}
use Rattle.std.proofs.lemmas.List.{get_or_read}
use Rattle.hashbag_slots.specs.Slots.{slot_entry, slot_at}
use Rattle.hashbag_slots.specs.Columns.{slots_of}
use Rattle.hashbag_slots.proofs.Guards.{stored, length-first, first_tag}
use Rattle.hashbag_slots.proofs.Reading.{length-slots_of, dead_at, live_at}
use Rattle.hashbag_slots.proofs.Maps.{no_entry}
use Rattle.hashbag_slots.proofs.slots.Slots.at.Goals.{After-index}
use Rattle.hashbag_slots.proofs.slots.Slots.at.Goals as goal

pub index-requires : goal.index-requires
index-requires g c =
    let l = length-slots_of (take c.self.inside.slots c.self.inside.tags.items) c.self.inside.cells c.self.invariant.shown.agree.same_length in
    let v = ap (λ s. length s.slots) c.self.view_is in let k = c.self.inside.tags.ok.0 in let r = c.requires in
    let first = length-first c.self.inside.slots c.self.inside.tags.items c.self.invariant.guarded in let room = stored c.self.inside.slots c.self.inside.tags.items c.self.invariant.guarded in omega arith

-- the byte that was read is the slot's tag
tag : (g : _) (c : goal.After-index g) → c.index.result.now ≡ get_or (take c.self.inside.slots c.self.inside.tags.items) c.args.place 0
tag g c =
    let ts = (take c.self.inside.slots c.self.inside.tags.items) in
    let within : c.args.place < length ts = let l = length-slots_of ts c.self.inside.cells c.self.invariant.shown.agree.same_length in let v = ap (λ s. length s.slots) c.self.view_is in let r = c.requires in omega arith in
    let first = length-first c.self.inside.slots c.self.inside.tags.items c.self.invariant.guarded in let room = stored c.self.inside.slots c.self.inside.tags.items c.self.invariant.guarded in
    get_or_read c.self.inside.tags.items c.args.place c.index.result.now (omega arith) c.index.ensures 0 ∙ sym (first_tag c.self.inside.slots c.self.inside.tags.items c.self.invariant.guarded c.args.place (omega arith))

pub returns-then-index-lt-LEAST_LIVE : goal.returns-then-index-lt-LEAST_LIVE
returns-then-index-lt-LEAST_LIVE g c =
    let ts = (take c.self.inside.slots c.self.inside.tags.items) in let cs = c.self.inside.cells in
    let is = tag g (goal.at.returns-then-index-lt-LEAST_LIVE g c).After-index in let low = c.if-index-lt-LEAST_LIVE.true in
    sym (ap (λ s. slot_entry (slot_at s.slots c.args.place)) (sym c.self.view_is) ∙ no_entry (slot_at (slots_of ts cs) c.args.place) (dead_at ts cs c.self.invariant.shown.agree c.args.place (omega arith)))

pub get-entry-requires : goal.get-entry-requires
get-entry-requires g c =
    let is = tag g (goal.at.get-entry-requires g c).After-index in let high = c.if-index-lt-LEAST_LIVE.false in
    c.self.invariant.shown.agree.filled c.args.place (omega arith)

pub returns : goal.returns
returns g c =
    let i = c.self.inside in
    sym (ap (λ s. slot_entry (slot_at s.slots c.args.place)) (sym c.self.view_is) ∙ ap slot_entry (live_at (take i.slots i.tags.items) i.cells c.self.invariant.shown.agree c.args.place c.get-entry.result.now c.get-entry.ensures))
