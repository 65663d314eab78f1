use Rattle.std.proofs.Common.{◌≡◌, ◌<◌, ◌≤◌, ◌⊎◌, All}
use Rattle.std.specs.List.{Contains}
use Rattle.hashbag_core.specs.Occurrences.{count}
use Rattle.hashbag_ops.proofs.order.max_count.Given as goal

-- a value's count is no more than the greatest so far, or is still to come; and that greatest was reached
abbrev pub invariant-loop-count : goal.invariant-loop-count
invariant-loop-count g l = record {
  most : (v : g.row.T.Denot) → (count g.T.PartialEq.eq v l.bag.items ≤ l.greatest) ⊎ ((x : g.row.T.Denot) × Contains l.count-iterator (x, count g.T.PartialEq.eq v l.bag.items));
  counted : All (λ e. count g.T.PartialEq.eq e.0 l.bag.items ≡ e.1) l.count-iterator;
  reached : 0 < l.greatest → (v : g.row.T.Denot) × (count g.T.PartialEq.eq v l.bag.items ≡ l.greatest);
}
