use Rattle.std.proofs.Common.{◌≡◌, map, take, sym, rules, arith}
use Rattle.std.proofs.lemmas.List.{take_all}
use Rattle.std.proofs.lemmas.List.Sorted.{IsPermutation-map}
use Rattle.hashbag_core.proofs.JsonWriteLemmas.{set_walk_reordered, once_in_walk}
use Rattle.hashbag_core.specs.Walks.{seen}
use Rattle.hashbag_ops.proofs.Ranked.{ranked_from_sort_by}
use Rattle.hashbag_ops.proofs.order.most_common.Goals as goal

-- the whole list is the sorted one, of which the first stay
pub returns-clause-first : goal.returns-clause-first
returns-clause-first g c =
    let listed = c.in_ok-pairs.pairs.items in
    let ps = c.sort_unstable_by.new.self.items in
    let walk = set_walk_reordered g.met.T.Eq.laws c.args.bag.now (map seen listed) (map seen ps) (IsPermutation-map seen listed ps c.sort_unstable_by.ensures.permutation) c.in_ok-pairs.ensures.walk in
    let ranked = ranked_from_sort_by g.met.T.Eq.laws g.met.T.Ord.total g.met.T.Ord.matches_eq ps c.sort_unstable_by.ensures.sorted (λ a r q k. search rules) (once_in_walk g.met.T.Eq.laws c.args.bag.now (map seen ps) walk) in
    let whole : take c.args.k (map seen ps) ≡ map seen ps = take_all c.args.k (map seen ps) (omega (arith, walk.distinct)) in
    (map seen ps, walk, ranked, sym whole)
