use Rattle.std.proofs.Common.{◌≡◌, ◌+◌, ◌-◌, ◌^◌, ◌≤◌, min}
use Rattle.hashbag_c.specs.Reads.{size_of}
use Rattle.hashbag_c.proofs.text_batches.sizes.Given as goal

-- the bytes so far and those to come are all, as far as a `usize` can say
abbrev pub invariant-loop-value : goal.invariant-loop-value
invariant-loop-value l = record {
  fits : l.sum ≤ 2 ^ 64 - 1;
  total : min (l.sum + size_of l.value-iterator) (2 ^ 64 - 1) ≡ min (size_of l.fn.walk) (2 ^ 64 - 1);
}
