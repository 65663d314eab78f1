use Rattle.std.proofs.Common.{◌≡◌, ◌-◌, ◌≤◌, length, take}
use Rattle.hashbag.specs.Occurrences.{count}
use Rattle.hashbag_callers.proofs.list_uses.take_each.Given as goal

-- the values so far are removed
abbrev pub invariant-loop-value : goal.invariant-loop-value
invariant-loop-value g l = record {
  fewer : length l.bag.items ≤ length l.fn.bag.items;
  counts : (v : g.row.T.Denot) → count g.T.PartialEq.eq v l.bag.items ≡ count g.T.PartialEq.eq v l.fn.bag.items - count g.T.PartialEq.eq v (take l.value-index l.values);
}
