use Rattle.std.proofs.Common.{◌≡◌, ◌+◌, ℕ, nat_eq, length, take}
use Rattle.hashbag_core.specs.Occurrences.{count}
use Rattle.hashbag_c.proofs.number_batches.insert_each.Given as goal

-- the numbers so far are in
abbrev pub invariant-loop-value : goal.invariant-loop-value
invariant-loop-value l = record {
  done : l.done ≡ l.value-index;
  len : length l.bag.items ≡ length l.fn.bag.items + l.value-index;
  counts : (v : ℕ) → count nat_eq v l.bag.items ≡ count nat_eq v l.fn.bag.items + count nat_eq v (take l.value-index l.values);
}
