use Rattle.std.proofs.Common.{◌≡◌, ◌++◌, map, sym, ◌∙◌, ap, subst}
use Rattle.std.proofs.lemmas.List.{append-nil}
use Rattle.hashbag_core.specs.Walks.{IsSetWalkOf, seen}
use Rattle.hashbag_ops.proofs.order.counts.Goals as goal

-- the pairs are those that the walk gave
pub returns-clause-walk : goal.returns-clause-walk
returns-clause-walk g c =
    let whole : map seen c.loop-pair.yielded ≡ c.set_iter-pair-items.result = sym (append-nil (map seen c.loop-pair.yielded)) ∙ ap (λ l. map seen c.loop-pair.yielded ++ l) (sym c.in-None.ensures.steps.0) ∙ c.loop-pair.invariant.parts ∙ c.into_iter-pair-iterator.ensures.into_iter_gives in
    let pairs : map seen c.loop-pair.list.items ≡ c.set_iter-pair-items.result = ap (map seen) c.loop-pair.invariant.pairs ∙ whole in
    subst (λ l. IsSetWalkOf g.T.PartialEq.eq c.args.bag.now l) (sym pairs) c.set_iter-pair-items.ensures
