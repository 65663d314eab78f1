use Rattle.std.proofs.Common.{◌≡◌, false, min, arith}
use Rattle.std.proofs.lemmas.Int.{clamps}
use Rattle.serde_json.specs.View.{view}
use Rattle.serde_json.specs.Written.{has_float}
use Rattle.hashbag_core.specs.Occurrences.{greatest_total}
use Rattle.hashbag_core.proofs.JsonLimitLemmas.{bag_tree, written_no_float, same_bag_tree, tells_apart, limit_read_back, pairs_read_back, none_at_fault}
use Rattle.hashbag_core.proofs.JsonTripLemmas.{all_weaker, keys_walked, no_float_in_tree}
use Rattle.hashbag_core.proofs.bag.HashBag.to_value.Goals as goal

pub returns-clause-tree : goal.returns-clause-tree
returns-clause-tree g c = λ Y one same.
    let tree = bag_tree g.met.T.Eq.laws g.T.Ord.cmp g.T.JsonItem.is_item g.T.JsonItem.tree_of g.T.JsonItem.has_item g.T.JsonItem.reads g.met.T.JsonItem.tree_is_read g.met.T.JsonItem.read_has_item g.met.T.JsonItem.reads_back
    c.args.self.now.items c.args.self.now.most c.limit.result (view c.in_ok-pairs.pairs) _ c.limit.ensures.limit c.in_ok-pairs.ensures.tree c.in_ok-tree_with_limit.ensures.tree in
    same_bag_tree g.met.T.Eq.laws g.met.T.Ord.total g.met.T.Ord.matches_eq g.T.JsonItem.is_item g.T.JsonItem.tree_of g.T.JsonItem.reads g.met.T.JsonItem.equal_is_item g.met.T.JsonItem.equal_trees g.met.T.JsonItem.tree_is_read g.met.T.JsonItem.reads_back
    c.args.self.now.items Y c.args.self.now.most _ tree c.in_ok-pairs.ensures.items one same

pub returns-clause-no_fault : goal.returns-clause-no_fault
returns-clause-no_fault g c =
    let within = c.limit.ensures.within in
    none_at_fault g.met.T.Eq.laws g.T.Ord.cmp g.T.JsonItem.is_item g.T.JsonItem.tree_of g.T.JsonItem.has_item g.T.JsonItem.reads g.met.T.JsonItem.tree_is_read g.met.T.JsonItem.read_has_item g.met.T.JsonItem.reads_back
    c.args.self.now.items c.limit.result greatest_total (view c.in_ok-pairs.pairs) _ (omega arith) c.in_ok-pairs.ensures.tree c.in_ok-tree_with_limit.ensures.tree (λ ds read. c.in_ok-pairs.ensures.no_fault ds (min greatest_total c.limit.result) read (omega (arith, clamps)))

pub returns-clause-counts : goal.returns-clause-counts
returns-clause-counts g c = λ pairs reading.
    let tree = bag_tree g.met.T.Eq.laws g.T.Ord.cmp g.T.JsonItem.is_item g.T.JsonItem.tree_of g.T.JsonItem.has_item g.T.JsonItem.reads g.met.T.JsonItem.tree_is_read g.met.T.JsonItem.read_has_item g.met.T.JsonItem.reads_back
    c.args.self.now.items c.args.self.now.most c.limit.result (view c.in_ok-pairs.pairs) _ c.limit.ensures.limit c.in_ok-pairs.ensures.tree c.in_ok-tree_with_limit.ensures.tree in
    let limit = c.limit.ensures.limit in
    pairs_read_back g.met.T.Eq.laws g.T.Ord.cmp g.T.JsonItem.is_item g.T.JsonItem.tree_of g.T.JsonItem.has_item g.T.JsonItem.reads g.met.T.JsonItem.tree_is_read g.met.T.JsonItem.read_has_item g.met.T.JsonItem.reads_back
    c.args.self.now.items c.args.self.now.most _ pairs (omega arith) tree c.in_ok-pairs.ensures.items reading

pub returns-clause-limit : goal.returns-clause-limit
returns-clause-limit g c =
    let tree = bag_tree g.met.T.Eq.laws g.T.Ord.cmp g.T.JsonItem.is_item g.T.JsonItem.tree_of g.T.JsonItem.has_item g.T.JsonItem.reads g.met.T.JsonItem.tree_is_read g.met.T.JsonItem.read_has_item g.met.T.JsonItem.reads_back
    c.args.self.now.items c.args.self.now.most c.limit.result (view c.in_ok-pairs.pairs) _ c.limit.ensures.limit c.in_ok-pairs.ensures.tree c.in_ok-tree_with_limit.ensures.tree in
    let limit = c.limit.ensures.limit in
    limit_read_back g.met.T.Eq.laws g.T.Ord.cmp g.T.JsonItem.is_item g.T.JsonItem.tree_of g.T.JsonItem.has_item g.T.JsonItem.reads g.met.T.JsonItem.tree_is_read g.met.T.JsonItem.read_has_item g.met.T.JsonItem.reads_back
    c.args.self.now.items c.args.self.now.most _ (omega arith) tree

pub returns-clause-same : goal.returns-clause-same
returns-clause-same g c =
    let tree = bag_tree g.met.T.Eq.laws g.T.Ord.cmp g.T.JsonItem.is_item g.T.JsonItem.tree_of g.T.JsonItem.has_item g.T.JsonItem.reads g.met.T.JsonItem.tree_is_read g.met.T.JsonItem.read_has_item g.met.T.JsonItem.reads_back
    c.args.self.now.items c.args.self.now.most c.limit.result (view c.in_ok-pairs.pairs) _ c.limit.ensures.limit c.in_ok-pairs.ensures.tree c.in_ok-tree_with_limit.ensures.tree in
    tells_apart g.met.T.Eq.laws g.met.T.Ord.total g.met.T.Ord.matches_eq g.T.JsonItem.is_item g.T.JsonItem.tree_of g.T.JsonItem.reads g.met.T.JsonItem.equal_is_item g.met.T.JsonItem.equal_trees g.met.T.JsonItem.tree_is_read g.met.T.JsonItem.reads_back
    c.args.self.now.items c.args.self.now.most _ tree c.in_ok-pairs.ensures.items

pub returns-clause-no_float : goal.returns-clause-no_float
returns-clause-no_float g c =
    let array = c.in_ok-pairs.ensures.tree in
    let keys = keys_walked g.met.T.Eq.laws g.T.JsonItem.is_item c.args.self.now.items array.pairs array.walk c.in_ok-pairs.ensures.items in
    let none = no_float_in_tree g.T.JsonItem.tree_of _ array.pairs array.is (all_weaker g.T.JsonItem.is_item (λ x. has_float (g.T.JsonItem.tree_of x) ≡ false) g.met.T.JsonItem.no_float _ keys) in
    written_no_float c.limit.result _ _ none c.in_ok-tree_with_limit.ensures.tree
