use Rattle.std.proofs.Common.{map}
use Rattle.std.proofs.lemmas.List.Sorted.{IsPermutation-map}
use Rattle.hashbag_core.proofs.JsonWriteLemmas.{set_walk_reordered, rising_from_sorted, once_in_walk}
use Rattle.hashbag_core.specs.Walks.{seen}
use Rattle.hashbag_ops.proofs.order.sorted.Goals as goal

-- a set walk stays one in another order
pub returns-clause-walk : goal.returns-clause-walk
returns-clause-walk g c =
    set_walk_reordered g.met.T.Eq.laws c.args.bag.now (map seen c.in_ok-pairs.pairs.items) _ (IsPermutation-map seen _ _ c.sort_unstable.ensures.permutation) c.in_ok-pairs.ensures.walk

pub returns-clause-rising : goal.returns-clause-rising
returns-clause-rising g c =
    rising_from_sorted g.met.T.Eq.laws g.met.T.Ord.total g.met.T.Ord.matches_eq _ c.sort_unstable.ensures.sorted (once_in_walk g.met.T.Eq.laws c.args.bag.now _ (returns-clause-walk g c))
