use Rattle.std.proofs.Common.{ℕ, ◌+◌, Bool, List, get_or, leb, sym, subst, arith}
use Rattle.std.proofs.lemmas.Bool.{leb-true, leb-false}
use Rattle.hashbag_slots.specs.Columns.{AgreeFrom}
use Rattle.hashbag_slots.proofs.Dropping.{none_after, one_taken}
use Rattle.hashbag_slots.proofs.GroupLemmas.{none_told, tells_fresh}
use Rattle.hashbag_slots.proofs.live.drop_group.Goals as goal

abbrev is_fingerprint : List ℕ → ℕ → Bool
is_fingerprint ts p = leb 128 (get_or ts p 0)

pub live-init : goal.live-init
live-init g c = (
  c.args.from,
  omega arith,
  omega arith,
  tells_fresh (is_fingerprint c.args.tags.now) c.args.from (c.args.from + 16) c.match_live-ahead.result c.match_live-ahead.ensures,
  c.requires.agree,
)

pub returns-then-ahead-eq0 : goal.returns-then-ahead-eq0
returns-then-ahead-eq0 g c =
    let ts = c.args.tags.now in let i = c.live.invariant in let begun = i.1 in
    let none = none_told (is_fingerprint ts) c.args.from i.0 (c.args.from + 16) c.live.ahead i.3 (omega arith) c.if-ahead-eq0.true in
    none_after ts c.live.cells i.0 (c.args.from + 16) i.4 i.2 (λ p a b. leb-false _ _ (none p a b))

pub take-requires : goal.take-requires
take-requires g c =
    let ts = c.args.tags.now in let i = c.live.invariant in let begun = i.1 in let test : ℕ → Bool = is_fingerprint ts in
    let told = c.take_lowest-place.ensures in
    let first = told.first test i.0 (c.args.from + 16) (omega arith) i.3 in
    let high = leb-true _ _ (first.hit (told.before_until test i.0 (c.args.from + 16) i.3)) in
    let low = first.low in
    i.4.filled c.take_lowest-place.result.0 (omega arith) high

pub live-preserved : goal.live-preserved
live-preserved g c =
    let ts = c.args.tags.now in let i = c.live.invariant in let begun = i.1 in let test : ℕ → Bool = is_fingerprint ts in
    let place = c.take_lowest-place.result.0 in
    let told = c.take_lowest-place.ensures in
    let first = told.first test i.0 (c.args.from + 16) (omega arith) i.3 in
    let below = told.before_until test i.0 (c.args.from + 16) i.3 in
    let low = first.low in let room = c.requires.within in (
      place + 1,
      omega arith,
      omega arith,
      told.rest test i.0 (c.args.from + 16) i.3,
      subst (AgreeFrom (place + 1) ts) (sym c.take.ensures.after)
          (one_taken ts c.live.cells i.0 place i.4 (omega arith) (omega arith) (λ p a b. leb-false _ _ (first.before p a b))),
    )

pub returns : goal.returns
returns g c =
    let i = c.live.invariant in let begun = i.1 in let end = i.2 in let all = c.live-test.false in
    subst (λ n. AgreeFrom n c.args.tags.now c.live.cells) (omega arith) i.4
