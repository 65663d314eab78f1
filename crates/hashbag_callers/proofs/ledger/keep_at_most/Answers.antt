use Rattle.std.proofs.Common.{◌≡◌, refl, rules}
use Rattle.hashbag.proofs.CallerLemmas.{count_retained}
use Rattle.hashbag.proofs.RetainLemmas.{answers_are}
use Rattle.hashbag_callers.proofs.ledger.keep_at_most.Goals as goal

pub returns-clause-counts : goal.returns-clause-counts
returns-clause-counts g c =
    let done = c.retain.ensures.retained in
    let most = c.args.most in
    let answers = answers_are _ (λ p. p.0.now ≡ most) (λ x. most) (λ p q x n a same t. search rules) _ done.walk done.returned done.last refl done.calls in
    λ v. count_retained g.met.T.Eq.laws (λ x. most) (λ u w same. refl) _ _ c.args.stock.now c.retain.new.self done answers v
