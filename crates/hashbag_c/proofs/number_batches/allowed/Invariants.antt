use Rattle.std.proofs.Common.{◌≡◌, ℕ, nat_eq, min, drop}
use Rattle.hashbag_core.specs.Occurrences.{count}
use Rattle.hashbag_c.specs.Quotas.{quota}
use Rattle.hashbag_c.proofs.number_batches.allowed.Given as goal

-- the numbers that are listed from this place on are in
abbrev pub invariant-loop-i : goal.invariant-loop-i
invariant-loop-i l = record {
  counts : (v : ℕ) → count nat_eq v l.made.items ≡ min (count nat_eq v l.bag.items) (quota nat_eq v (drop l.i l.values) (drop l.i l.most));
}
