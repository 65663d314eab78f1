use Rattle.std.proofs.Common.{◌≡◌, ◌+◌, ◌≤◌, length}
use Rattle.std.specs.Vec.Iter.{into_iter_items, into_iter_len}
use Rattle.hashbag.specs.Occurrences.{count}
use Rattle.hashbag.specs.Tables.{room}
use Rattle.hashbag_callers.proofs.reserved.insert_all.Given as goal

-- the values so far are in, and there is room for the others
abbrev pub invariant-loop-value : goal.invariant-loop-value
invariant-loop-value g l = record {
  long : into_iter_len l.value-iterator ≡ length (into_iter_items l.value-iterator);
  room : into_iter_len l.value-iterator ≤ room l.bag.tables;
  slots : length l.bag.tables.newer ≡ length l.initial.bag.tables.newer;
  len : length l.bag.items + length (into_iter_items l.value-iterator) ≡ length l.initial.bag.items + length (into_iter_items l.initial.value-iterator);
  limit : l.bag.most ≡ l.initial.bag.most;
  within : length l.bag.items ≤ l.bag.most;
  none_lost : (v : g.row.T.Denot) → count g.T.PartialEq.eq v l.initial.bag.items ≤ count g.T.PartialEq.eq v l.bag.items;
  counts : (v : g.row.T.Denot) → count g.T.PartialEq.eq v l.bag.items + count g.T.PartialEq.eq v (into_iter_items l.value-iterator) ≡ count g.T.PartialEq.eq v l.initial.bag.items + count g.T.PartialEq.eq v (into_iter_items l.initial.value-iterator);
}
