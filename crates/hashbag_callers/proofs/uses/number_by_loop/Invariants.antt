use Rattle.std.proofs.Common.{◌≡◌, ◌+◌, length}
use Rattle.hashbag_callers.proofs.uses.number_by_loop.Given as goal

-- the number so far and that of the occurrences to come are the whole
abbrev pub invariant-loop : goal.invariant-loop
invariant-loop g l = l.number + length l.iterator' ≡ length l.bag.items
