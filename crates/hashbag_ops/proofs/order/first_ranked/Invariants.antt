use Rattle.std.proofs.Common.{◌≡◌, ◌++◌, map}
use Rattle.std.specs.Vec.Iter.{into_iter_items}
use Rattle.hashbag_ops.specs.Order.{counted_pair}
use Rattle.hashbag_core.specs.Walks.{seen}
use Rattle.hashbag_ops.proofs.order.first_ranked.Given as goal

-- what was given so far, and the pairs of it
abbrev pub invariant-loop-count : goal.invariant-loop-count
invariant-loop-count g l = record {
  parts : l.yielded ++ into_iter_items l.count-iterator ≡ into_iter_items l.initial.count-iterator;
  pairs : map seen l.pairs.items ≡ map counted_pair l.yielded;
}
