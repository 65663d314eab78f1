use Rattle.std.proofs.Common.{◌≡◌, ◌++◌, map}
use Rattle.hashbag_core.specs.Walks.{seen}
use Rattle.hashbag_ops.proofs.order.counts.Given as goal

-- what was given so far, and what is left of the walk
abbrev pub invariant-loop-pair : goal.invariant-loop-pair
invariant-loop-pair g l = record {
  parts : map seen l.yielded ++ l.pair-iterator ≡ l.initial.pair-iterator;
  pairs : l.list.items ≡ l.yielded;
}
