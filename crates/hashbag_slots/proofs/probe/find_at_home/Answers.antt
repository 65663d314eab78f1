use Rattle.std.proofs.Common.{◌<◌, ◌≤◌, length, take, ◌∙◌, arith}
use Rattle.hashbag_slots.specs.Columns.{tag_at, slots_of}
use Rattle.hashbag_slots.proofs.Guards.{length-first, first_tag}
use Rattle.hashbag_slots.proofs.Reading.{length-slots_of, holds_at}
use Rattle.hashbag_slots.proofs.probe.find_at_home.Goals.{Then-tags-first}
use Rattle.hashbag_slots.proofs.probe.find_at_home.Goals as goal

-- the tag of the home slot is a fingerprint
high : (g : _) (c : goal.Then-tags-first g) → 128 ≤ tag_at (take c.args.slots c.args.tags.now) c.path_slot-first.result
high g c =
    let m = c.fingerprint_of.ensures.least in let t = c.if-tags-first.true in
    let first = first_tag c.args.slots c.args.tags.now c.requires.guarded c.path_slot-first.result c.path_slot-first.ensures.bound in omega arith

pub is_named-requires : goal.is_named-requires
is_named-requires g c = c.requires.agree.filled c.path_slot-first.result (high g (goal.at.is_named-requires g c).Then-tags-first)

pub returns-then-is_named : goal.returns-then-is_named
returns-then-is_named g c =
    let ts = take c.args.slots c.args.tags.now in let cs = c.args.cells.now in
    let len = length-slots_of ts cs c.requires.agree.same_length in let long = length-first c.args.slots c.args.tags.now c.requires.guarded in
    let bound = c.path_slot-first.ensures.bound in
    let within : c.path_slot-first.result < length (slots_of ts cs) = omega arith in
    let e = c.requires.agree.filled c.path_slot-first.result (high g (goal.at.returns-then-is_named g c).Then-tags-first) in
    record { found = (within, holds_at ts cs c.requires.agree c.path_slot-first.result (g.Q.Key.names c.args.key) e.0 e.1 ∙ c.is_named.ensures e.0 e.1 ∙ c.if-is_named.true) }
