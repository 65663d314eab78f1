use Rattle.std.proofs.Common.{◌≡◌, ◌+◌, ◌<◌, ◌≤◌, length}
use Rattle.hashbag.specs.Occurrences.{count, instance}
use Rattle.hashbag_callers.proofs.ledger.sell_out.Given as goal

-- what went is of the article alone, its last one didn't, and the stored instance is the one that was there
abbrev pub invariant-loop-last : goal.invariant-loop-last
invariant-loop-last g l = record {
  len : length l.stock.items + count g.T.PartialEq.eq l.article l.fn.stock.items ≡ length l.fn.stock.items + count g.T.PartialEq.eq l.article l.stock.items;
  fewer : count g.T.PartialEq.eq l.article l.stock.items ≤ count g.T.PartialEq.eq l.article l.fn.stock.items;
  some : 0 < count g.T.PartialEq.eq l.article l.fn.stock.items → 0 < count g.T.PartialEq.eq l.article l.stock.items;
  same : instance g.T.PartialEq.eq l.article l.stock.items ≡ instance g.T.PartialEq.eq l.article l.fn.stock.items;
}

abbrev pub decreases-loop-last : goal.decreases-loop-last
decreases-loop-last g l = length l.stock.items
