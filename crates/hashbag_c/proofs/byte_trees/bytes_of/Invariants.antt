use Rattle.hashbag_c.proofs.ByteTreeLemmas.{HasRead}
use Rattle.hashbag_c.proofs.byte_trees.bytes_of.Given as goal

abbrev pub invariant-loop-tree : goal.invariant-loop-tree
invariant-loop-tree l = HasRead l.list.items l.tree-index l.bytes.items
