use Rattle.std.proofs.Common.{◌≤◌, length, get_or, subst, arith, below_more}
use Rattle.hashbag_slots.proofs.Paths.{sixteen_slots}
use Rattle.hashbag_slots.proofs.probe.first_free.Goals as goal

pub path_slot-place-requires-clause-step : goal.path_slot-place-requires-clause-step
path_slot-place-requires-clause-step c =
    let many = sixteen_slots (length c.args.tags.now) c.requires.room.0 c.requires.slots c.requires.room.1 in
    let near = c.near-test.true in omega arith

pub returns-then-tags-place-lt-LEAST_LIVE-clause-path :
    goal.returns-then-tags-place-lt-LEAST_LIVE-clause-path
returns-then-tags-place-lt-LEAST_LIVE-clause-path c =
    let many = sixteen_slots (length c.args.tags.now) c.requires.room.0 c.requires.slots c.requires.room.1 in
    let near = c.near-test.true in (c.near.step, omega arith, c.path_slot-place.ensures.value, c.near.invariant)

pub near-preserved : goal.near-preserved
near-preserved c =
    let high = c.if-tags-place-lt-LEAST_LIVE.false in
    below_more _ _ c.near.invariant (subst (λ p. 128 ≤ get_or c.args.tags.now p 0) c.path_slot-place.ensures.value (omega arith))
