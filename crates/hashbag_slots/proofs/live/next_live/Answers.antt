use Rattle.std.proofs.Common.{◌≡◌, ℕ, ◌+◌, ◌<◌, ◌≤◌, get_or, subst, inl, inr, arith}
use Rattle.std.proofs.lemmas.Bool.{cases_lt, leb-true, leb-false}
use Rattle.std.proofs.lemmas.List.{get_or_past}
use Rattle.hashbag_slots.proofs.live.next_live.Goals as goal

-- what holds up to m, and from there up to r, holds up to r
joined : (P : ℕ → Type 0) (from m r : ℕ) → ((q : ℕ) → from ≤ q → q < m → P q) → ((q : ℕ) → m ≤ q → q < r → P q) → (q : ℕ) → from ≤ q → q < r → P q
joined P from m r before beyond q a b = elim (cases_lt q m) [ inl near ↦ before q a near | inr far ↦ beyond q far b ]

pub places-init : goal.places-init
places-init c = (omega arith, λ q a b. absurd (omega arith))

pub returns-then-lane-lt-GROUP_WIDTH-clause-some : goal.returns-then-lane-lt-GROUP_WIDTH-clause-some
returns-then-lane-lt-GROUP_WIDTH-clause-some c =
    let ts = c.args.tags.now in let at = c.places.at in let room = c.if-at-slots.true in
    let lane = c.first_live-lane.result in let short = c.if-lane-lt-GROUP_WIDTH.true in
    let from = c.places.invariant.0 in (
      omega arith,
      omega arith,
      leb-true _ _ (c.first_live-lane.ensures.first.hit (omega arith)),
      joined (λ q. get_or ts q 0 < 128) c.args.from at (at + lane) c.places.invariant.1 (λ q beyond b. leb-false _ _ (c.first_live-lane.ensures.first.before q beyond b)),
    )

pub places-preserved-then-at-slots : goal.places-preserved-then-at-slots
places-preserved-then-at-slots c =
    let at = c.places.at in let long = c.if-lane-lt-GROUP_WIDTH.false in let from = c.places.invariant.0 in (
      omega arith,
      joined (λ q. get_or c.args.tags.now q 0 < 128) c.args.from at (at + 16) c.places.invariant.1 (λ q beyond b. leb-false _ _ (c.first_live-lane.ensures.first.before q beyond (omega arith))),
    )

pub returns-then-tags-at-ge-LEAST_LIVE-clause-some :
    goal.returns-then-tags-at-ge-LEAST_LIVE-clause-some
returns-then-tags-at-ge-LEAST_LIVE-clause-some c = (c.places.invariant.0, c.places-test.true, c.if-tags-at-ge-LEAST_LIVE.true, c.places.invariant.1)

pub places-preserved : goal.places-preserved
places-preserved c =
    let at = c.places.at in let from = c.places.invariant.0 in let low = c.if-tags-at-ge-LEAST_LIVE.false in (
      omega arith,
      joined (λ q. get_or c.args.tags.now q 0 < 128) c.args.from at (at + 1) c.places.invariant.1 (λ q beyond b.
          let e : at ≡ q = omega arith in
          let here : get_or c.args.tags.now at 0 < 128 = omega arith in
          subst (λ p. get_or c.args.tags.now p 0 < 128) e here),
    )

pub returns-clause-none : goal.returns-clause-none
returns-clause-none c q a =
    elim (cases_lt q c.places.at) [
      | inl before ↦ c.places.invariant.1 q a before
      | inr beyond ↦
          let end = c.places-test.false in
          let none : get_or c.args.tags.now q 0 ≡ 0 = get_or_past c.args.tags.now q 0 (omega arith) in
          omega arith
    ]
