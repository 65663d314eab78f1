use Rattle.std.proofs.Common.{◌≡◌, ◌++◌, map, heap_items}
use Rattle.std.specs.BinaryHeap.{IsHeap}
use Rattle.hashbag_ops.specs.Order.{comes_first, counted_pair, counted_cmp, IsFirstOf}
use Rattle.hashbag_core.specs.Walks.{seen}
use Rattle.hashbag_ops.proofs.order.heap_of_first.Given as goal

-- what was given so far, what is left of the walk, and the heap of the first of these
abbrev pub invariant-loop-value : goal.invariant-loop-value
invariant-loop-value g l = record {
  parts : map seen l.yielded ++ l.value-iterator ≡ l.initial.value-iterator;
  heap : IsHeap (counted_cmp g.T.Ord.cmp) (heap_items l.heap);
  first : IsFirstOf (comes_first g.T.Ord.cmp) l.k (map seen l.yielded) (map counted_pair (heap_items l.heap));
}
