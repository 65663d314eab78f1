use Rattle.std.proofs.Common.{◌≡◌, ◌+◌, ℕ, nat_eq, length, take}
use Rattle.hashbag.specs.Occurrences.{count}
use Rattle.hashbag_callers.proofs.words.insert_each.Given as goal

-- the words so far are in
abbrev pub invariant-loop-word : goal.invariant-loop-word
invariant-loop-word g l = record {
  len : length l.bag.items ≡ length l.fn.bag.items + l.word-index;
  limit : l.bag.most ≡ l.fn.bag.most;
  counts : (v : ℕ) → count nat_eq v l.bag.items ≡ count nat_eq v l.fn.bag.items + count nat_eq v (take l.word-index l.words);
}
