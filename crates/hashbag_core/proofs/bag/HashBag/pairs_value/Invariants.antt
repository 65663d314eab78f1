use Rattle.std.proofs.Common.{◌≡◌, ◌++◌, map}
use Rattle.std.specs.List.{AllByRecursion}
use Rattle.std.specs.Map.{keys_of}
use Rattle.std.specs.Vec.Iter.{into_iter_items}
use Rattle.serde_json.specs.View.{view}
use Rattle.hashbag_core.specs.JsonTrees.{pair_tree}
use Rattle.hashbag_core.specs.Walks.{seen}
use Rattle.hashbag_core.proofs.bag.HashBag.pairs_value.Given as goal

-- the pairs before this one were written, and their values are items
abbrev pub invariant-loop-item : goal.invariant-loop-item
invariant-loop-item g l = record {
  parts : l.yielded ++ into_iter_items l.item-iterator ≡ into_iter_items l.initial.item-iterator;
  trees : map view l.list.items ≡ map (pair_tree g.T.JsonItem.tree_of) (map seen l.yielded);
  items : AllByRecursion g.T.JsonItem.is_item (keys_of (map seen l.yielded));
}
