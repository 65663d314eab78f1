use Rattle.std.proofs.Common.{◌≡◌, ◌+◌, length, sum_by}
use Rattle.hashbag_callers.proofs.uses.sum_by_loop.Given as goal

-- the sum so far and the counts to come are the number of occurrences
abbrev pub invariant-loop-count : goal.invariant-loop-count
invariant-loop-count g l = l.sum + sum_by (λ e. e.1) l.count-iterator ≡ length l.bag.items
