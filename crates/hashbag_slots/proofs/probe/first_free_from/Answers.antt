use Rattle.std.proofs.Common.{ℕ, ◌+◌, ◌<◌, ◌≤◌, length, get_or, sym, ap, subst, ◌∙◌, inl, inr, arith, below_more}
use Rattle.std.proofs.lemmas.Bool.{cases_lt, ltb-false}
use Rattle.hashbag_slots.specs.Slots.{path_slot}
use Rattle.hashbag_slots.proofs.Paths.{path_to}
use Rattle.hashbag_slots.proofs.Strides.{path_ahead, further}
use Rattle.hashbag_slots.proofs.probe.first_free_from.Goals as goal

pub returns-then-lane-lt-GROUP_WIDTH-clause-path : goal.returns-then-lane-lt-GROUP_WIDTH-clause-path
returns-then-lane-lt-GROUP_WIDTH-clause-path c =
    let ts = c.args.tags.now in let h = c.args.hash in let n = length ts in
    let at = c.path_slot-place.result in let is = c.path_slot-place.ensures.value in let room = c.if-place-slots.true in
    let lane = c.first_not_live-lane.result in let short = c.if-lane-lt-GROUP_WIDTH.true in
    let passed : (k : ℕ) → k < c.steps.step + lane → 128 ≤ get_or ts (path_slot n h k) 0 =
    further (λ p. 128 ≤ get_or ts p 0) n h c.steps.step lane (omega arith) c.steps.invariant (λ p a b. ltb-false _ _ (c.first_not_live-lane.ensures.first.before p (omega arith) (omega arith))) in
    let free = c.requires.room in
    let to = path_to n h free.0 free.1 in
    let within : c.steps.step + lane < n =
    elim (cases_lt to.0 (c.steps.step + lane)) [
      | inl before ↦
          let high : 128 ≤ get_or ts free.0 0 = subst (λ p. 128 ≤ get_or ts p 0) to.2 (passed to.0 before) in
          let low = free.2 in absurd (omega arith)
      | inr after ↦ let t = to.1 in omega arith
    ] in
    (c.steps.step + lane, within, ap (λ p. p + lane) is ∙ sym (path_ahead n h c.steps.step lane (omega arith)), passed)

pub steps-preserved-then-place-slots : goal.steps-preserved-then-place-slots
steps-preserved-then-place-slots c =
    let is = c.path_slot-place.ensures.value in let room = c.if-place-slots.true in let long = c.if-lane-lt-GROUP_WIDTH.false in
    further (λ p. 128 ≤ get_or c.args.tags.now p 0) (length c.args.tags.now) c.args.hash c.steps.step 16 (omega arith) c.steps.invariant
    (λ p a b. ltb-false _ _ (c.first_not_live-lane.ensures.first.before p (omega arith) (omega arith)))

pub returns-then-tags-place-lt-LEAST_LIVE-clause-path :
    goal.returns-then-tags-place-lt-LEAST_LIVE-clause-path
returns-then-tags-place-lt-LEAST_LIVE-clause-path c = (c.steps.step, c.steps-test.true, c.path_slot-place.ensures.value, c.steps.invariant)

pub steps-preserved : goal.steps-preserved
steps-preserved c =
    let high = c.if-tags-place-lt-LEAST_LIVE.false in
    below_more _ _ c.steps.invariant (subst (λ p. 128 ≤ get_or c.args.tags.now p 0) c.path_slot-place.ensures.value (omega arith))

pub unreachable-requires : goal.unreachable-requires
unreachable-requires c =
    let free = c.requires.room in
    let ts = c.args.tags.now in
    let to = path_to (length ts) c.args.hash free.0 free.1 in
    let high = c.steps.invariant to.0 (let l = to.1 in let t = c.steps-test.false in omega arith) in
    let here : 128 ≤ get_or ts free.0 0 = subst (λ p. 128 ≤ get_or ts p 0) to.2 high in
    let low = free.2 in omega arith
