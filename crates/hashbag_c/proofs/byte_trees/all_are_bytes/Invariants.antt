use Rattle.std.proofs.Common.{◌≡◌, drop, is_some}
use Rattle.serde_json.specs.View.{items_view}
use Rattle.hashbag_c.specs.ByteTrees.{bytes_in}
use Rattle.hashbag_c.proofs.byte_trees.all_are_bytes.Given as goal

-- the trees before this one are bytes
abbrev pub invariant-loop-tree : goal.invariant-loop-tree
invariant-loop-tree l = is_some (bytes_in (items_view (drop l.tree-index l.list.items))) ≡ is_some (bytes_in (items_view l.list.items))
