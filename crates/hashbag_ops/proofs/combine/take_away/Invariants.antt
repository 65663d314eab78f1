use Rattle.std.proofs.Common.{◌≡◌, ◌-◌, ◌≤◌, cond, length, sum_by}
use Rattle.hashbag_core.specs.Occurrences.{count}
use Rattle.hashbag_table.specs.Tables.{room}
use Rattle.hashbag_ops.proofs.combine.take_away.Given as goal

-- less what is still to come, each count is what it is to be
abbrev pub invariant-loop-value : goal.invariant-loop-value
invariant-loop-value g l = record {
  counts : (v : g.row.T.Denot) → count g.T.PartialEq.eq v l.bag.items - sum_by (λ p. cond (g.T.PartialEq.eq v p.0) p.1 0) l.value-iterator
      ≡ count g.T.PartialEq.eq v l.fn.bag.items - count g.T.PartialEq.eq v l.other.items;
  len : length l.bag.items ≤ length l.fn.bag.items;
  limit : l.bag.most ≡ l.fn.bag.most;
  hasher : l.bag.hasher ≡ l.fn.bag.hasher;
  slots : length l.bag.tables.newer ≡ length l.fn.bag.tables.newer;
  room : room l.fn.bag.tables ≤ room l.bag.tables;
}
