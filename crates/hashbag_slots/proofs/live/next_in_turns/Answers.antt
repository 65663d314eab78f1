use Rattle.std.proofs.Common.{◌≡◌, ◌+◌, ◌-◌, ◌/◌, suc, ℕ, subst, ◌∙◌, refl, arith}
use Rattle.hashbag_slots.specs.Walks.{of_turn, IsNextGroup, NoneLive}
use Rattle.hashbag_slots.proofs.GroupLemmas.{tells_fresh}
use Rattle.hashbag_slots.proofs.Walking.{is_fingerprint, next_on, next_on_earlier, left_skip, turn_ends, last_ends}
use Rattle.hashbag_slots.proofs.live.next_in_turns.Goals.{In_default}
use Rattle.hashbag_slots.proofs.live.next_in_turns.Goals as goal

pub overflow_add-course : goal.overflow_add-course
overflow_add-course c =
    let live = is_fingerprint c.tags_of_turn-tags.result.now in let at = c.in-Some.at in
    let b = c.take_lowest-place.ensures.before_until live at (at + 16) (tells_fresh live at (at + 16) c.in-Some.ahead c.in-Some.ensures.some.mask) in
    let w = c.in-Some.ensures.some.fits in
    omega arith

none : (c : goal.In_default) → NoneLive (of_turn c.turns.turn c.args.newer.now c.args.older.now) (c.turns.turn / 2) c.turns.from
none c = subst (λ ts. NoneLive ts (c.turns.turn / 2) c.turns.from) c.tags_of_turn-tags.ensures c.in_default.ensures.none

pub returns-in-Some-clause-some : goal.returns-in-Some-clause-some
returns-in-Some-clause-some c =
    let ns = c.args.newer.now in let os = c.args.older.now in let turn = c.turns.turn in
    let group : IsNextGroup (of_turn turn ns os) (turn / 2) c.turns.from (c.in-Some.at, c.in-Some.ahead) = subst (λ ts. IsNextGroup ts (turn / 2) c.turns.from (c.in-Some.at, c.in-Some.ahead)) c.tags_of_turn-tags.ensures c.in-Some.ensures.some in
    let live = is_fingerprint (of_turn turn ns os) in let at : ℕ = c.in-Some.at in let told = tells_fresh live at (at + 16) c.in-Some.ahead group.mask in
    let e = c.take_lowest-place.ensures in
    next_on_earlier ns os c.args.turn turn c.args.from at c.take_lowest-place.result.0 _ (c.turns.invariant.0 ∙ left_skip ns os turn c.turns.from at group.after group.none)
    (next_on ns os turn at at c.take_lowest-place.result.0 c.take_lowest-place.result.1 group.sixteen (omega arith) (omega arith) group.within group.on_pass
    (e.before_until live at (at + 16) told) (e.first live at (at + 16) (omega arith) told) (e.rest live at (at + 16) told))

pub returns-then-turn-eq0-clause-none : goal.returns-then-turn-eq0-clause-none
returns-then-turn-eq0-clause-none c =
    c.turns.invariant.0 ∙ last_ends c.args.newer.now c.args.older.now c.turns.turn c.turns.from c.if-turn-eq0.true (none (goal.at.returns-then-turn-eq0-clause-none c).In_default)

pub turns-preserved : goal.turns-preserved
turns-preserved c =
    let turn = c.turns.turn in let some = c.if-turn-eq0.false in let e : turn ≡ suc (turn - 1) = omega arith in
    (c.turns.invariant.0 ∙ turn_ends c.args.newer.now c.args.older.now turn (turn - 1) c.turns.from e (none (goal.at.turns-preserved c).In_default), refl, omega arith)
