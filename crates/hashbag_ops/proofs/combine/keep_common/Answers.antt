use Rattle.std.proofs.Common.{◌≡◌, refl, arith, rules}
use Rattle.hashbag_core.specs.Occurrences.{count}
use Rattle.hashbag_core.specs.EqualityLaws.{count_congr}
use Rattle.hashbag_core.proofs.CallerLemmas.{count_retained}
use Rattle.hashbag_core.proofs.RetainLemmas.{answers_are}
use Rattle.hashbag_ops.proofs.combine.keep_common.Goals as goal

-- the closure decides by the value alone
pub returns-clause-counts : goal.returns-clause-counts
returns-clause-counts g c =
    let eq = g.T.PartialEq.eq in
    let Y = c.args.other.now.items in
    let done = c.retain.ensures.retained in
    let answers = answers_are _ (λ p. p.0.now.items ≡ Y) (λ x. count eq x Y) (λ p q x n a same t. search rules) _ done.walk done.returned done.last refl done.calls in
    λ v.
    let kept = count_retained g.met.T.Eq.laws (λ x. count eq x Y) (λ u w same. count_congr g.met.T.Eq.laws Y u w same) _ _ c.args.bag.now c.retain.new.self done answers v in
    omega arith

pub returns-clause-limit : goal.returns-clause-limit
returns-clause-limit g c = c.retain.ensures.retained.left.limit

pub returns-clause-hasher : goal.returns-clause-hasher
returns-clause-hasher g c = c.retain.ensures.retained.left.hasher
