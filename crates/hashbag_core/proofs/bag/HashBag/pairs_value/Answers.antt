use Rattle.std.proofs.Common.{◌≡◌, map, sym, ◌∙◌, ap, subst, arith}
use Rattle.std.proofs.lemmas.Grind.{common_steps}
use Rattle.std.proofs.lemmas.List.{append-nil}
use Rattle.std.proofs.lemmas.List.Sorted.{IsPermutation-refl}
use Rattle.std.specs.List.{AllByRecursion}
use Rattle.std.specs.Map.{keys_of}
use Rattle.serde_json.specs.Data.{array}
use Rattle.serde_json.specs.View.{view, items_of}
use Rattle.serde_json.proofs.Views.{view-Array}
use Rattle.hashbag_core.specs.JsonTrees.{IsTree, pair_tree}
use Rattle.hashbag_core.specs.Walks.{seen}
use Rattle.hashbag_core.proofs.JsonTripLemmas.{all_walked, no_fault_in_pairs, same_some, trees_of}
use Rattle.hashbag_core.proofs.bag.HashBag.pairs_value.Goals as goal

-- all pairs were written
whole : (g : _) (c : goal.After-drop-item-iterator-2 g) → c.loop-item.yielded ≡ c.in_ok-pairs.pairs.items
whole g c = grind (arith, common_steps, append-nil)

keys : (g : _) (c : goal.After-drop-item-iterator-2 g) → AllByRecursion g.T.JsonItem.is_item (keys_of (map seen c.in_ok-pairs.pairs.items))
keys g c = subst (λ l. AllByRecursion g.T.JsonItem.is_item (keys_of (map seen l))) (whole g c) c.loop-item.invariant.items

tree : (g : _) (c : goal.After-drop-item-iterator-2 g) → IsTree g.T.PartialEq.eq g.T.Ord.cmp g.T.JsonItem.tree_of c.args.self.now.items (array (items_of (map view c.loop-item.list.items)))
tree g c = record {
  pairs = map seen c.in_ok-pairs.pairs.items;
  walk = c.in_ok-pairs.ensures.walk.walk c.args.self.now.items (IsPermutation-refl c.args.self.now.items);
  rising = c.in_ok-pairs.ensures.rising;
  is = ap (λ l. array (items_of l)) (c.loop-item.invariant.trees ∙ ap (λ l. map (pair_tree g.T.JsonItem.tree_of) (map seen l)) (whole g c));
}

pub returns-clause-items : goal.returns-clause-items
unfolding tree
returns-clause-items g c = all_walked g.met.T.Eq.laws g.T.JsonItem.is_item c.args.self.now.items _ (tree g c).walk (keys g c)

pub returns-clause-tree : goal.returns-clause-tree
returns-clause-tree g c = rw (view-Array c.loop-item.list) (tree g c)

-- the pairs come to the total, which fits
pub returns-clause-no_fault : goal.returns-clause-no_fault
unfolding tree
returns-clause-no_fault g c = λ ds n read fits.
    let total = c.in_ok-pairs.ensures.walk.total in
    let is = (tree g c).is in
    let trees : ds ≡ map (pair_tree g.T.JsonItem.tree_of) (map seen c.in_ok-pairs.pairs.items) = same_some _ _ (sym (rw (view-Array c.loop-item.list) at read) ∙ trees_of g.T.JsonItem.tree_of _ _ is) in
    rw trees (no_fault_in_pairs g.met.T.Eq.laws g.T.Ord.cmp g.T.JsonItem.is_item g.T.JsonItem.tree_of g.T.JsonItem.has_item g.T.JsonItem.reads g.met.T.JsonItem.tree_is_read g.met.T.JsonItem.read_has_item g.met.T.JsonItem.reads_back
    n (map seen c.in_ok-pairs.pairs.items) (keys g c) (omega arith))
