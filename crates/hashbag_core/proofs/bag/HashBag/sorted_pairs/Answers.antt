use Rattle.std.proofs.Common.{◌≡◌, ◌++◌, map, sym, ◌∙◌, ap, subst}
use Rattle.std.proofs.lemmas.List.{append-nil}
use Rattle.std.proofs.lemmas.List.Sorted.{IsPermutation-map}
use Rattle.hashbag_core.specs.Walks.{IsSetWalkOf, seen}
use Rattle.hashbag_core.proofs.JsonWriteLemmas.{set_walk_reordered, rising_from_sorted, once_in_walk}
use Rattle.hashbag_core.proofs.bag.HashBag.sorted_pairs.Goals as goal

-- the pairs are a set walk, before the sort and after it
pub returns-clause-walk : goal.returns-clause-walk
returns-clause-walk g c =
    let whole : map seen c.loop-pair.yielded ≡ c.set_iter-pair-items.result = sym (append-nil (map seen c.loop-pair.yielded)) ∙ ap (λ l. map seen c.loop-pair.yielded ++ l) (sym c.in-None.ensures.steps.0) ∙ c.loop-pair.invariant.parts ∙ c.into_iter-pair-iterator.ensures.into_iter_gives in
    let pairs : map seen c.loop-pair.pairs.items ≡ c.set_iter-pair-items.result = ap (map seen) c.loop-pair.invariant.pairs ∙ whole in
    let walk = subst (λ l. IsSetWalkOf g.T.PartialEq.eq c.args.self.now l) (sym pairs) c.set_iter-pair-items.ensures in
    set_walk_reordered g.met.T.Eq.laws c.args.self.now (map seen c.loop-pair.pairs.items) _ (IsPermutation-map seen _ _ c.sort_unstable.ensures.permutation) walk

pub returns-clause-rising : goal.returns-clause-rising
returns-clause-rising g c =
    let walk = returns-clause-walk g c in
    rising_from_sorted g.met.T.Eq.laws g.met.T.Ord.total g.met.T.Ord.matches_eq _ c.sort_unstable.ensures.sorted (once_in_walk g.met.T.Eq.laws c.args.self.now _ walk)
