use Rattle.std.proofs.Common.{◌≡◌, length}
use Rattle.hashbag_core.specs.JoinsLeft.{excesses}
use Rattle.hashbag_core.proofs.joins.DifferenceIterator.next.Given as goal

-- what was passed over gives nothing
abbrev pub invariant-loop-value : goal.invariant-loop-value
invariant-loop-value g l = excesses g.T.PartialEq.eq l.initial.self-inside.other.now.items l.initial.self-inside.left ≡ excesses g.T.PartialEq.eq l.self-inside.other.now.items l.self-inside.left

abbrev pub decreases-loop-value : goal.decreases-loop-value
decreases-loop-value g l = length l.self-inside.left
