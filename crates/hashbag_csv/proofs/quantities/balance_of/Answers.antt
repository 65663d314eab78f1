use Rattle.std.proofs.Common.{◌≡◌, refl, subst}
use Rattle.std.specs.List.Sorted.{IsPermutation}
use Rattle.std.proofs.lemmas.Iterator.{items_from_collect}
use Rattle.std.proofs.lemmas.Iterator.Consumers.{YieldsList-from_first}
use Rattle.hashbag_csv.proofs.QuantityLemmas.{balance_from_walk, quantities_from_walk}
use Rattle.hashbag_csv.proofs.quantities.balance_of.Goals as goal

-- the entries of the walk, sorted
pub returns : goal.returns
returns g c =
    let items : c.in_ok-list.list.items ≡ c.into_iter.result = rw c.in_ok-list.was at (items_from_collect c.collect.result c.collect.ensures.ran (YieldsList-from_first (λ x. x) (λ s. s) c.into_iter.result refl)) in
    let moved = subst (λ l. IsPermutation l c.sort_unstable.new.self.items) items c.sort_unstable.ensures.permutation in
    let walk = c.into_iter.ensures.into_iter_gives in
    record {
      balance = balance_from_walk g.met.T.Eq.laws g.met.T.Ord.total g.met.T.Ord.matches_eq c.args.bag c.into_iter.result _ moved c.sort_unstable.ensures.sorted walk;
      quantities = quantities_from_walk g.met.T.Eq.laws c.args.bag c.into_iter.result _ moved walk;
    }
