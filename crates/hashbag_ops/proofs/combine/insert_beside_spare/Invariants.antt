use Rattle.std.proofs.Common.{length}
use Rattle.hashbag_ops.proofs.Spared.{SoFar}
use Rattle.hashbag_ops.proofs.combine.insert_beside_spare.Given as goal

-- the pairs that came were inserted in turn, while there was room
abbrev pub invariant-pairs : goal.invariant-pairs
invariant-pairs g l = SoFar g.T.PartialEq.eq l.fn.into l.into l.initial.pairs l.pairs

abbrev pub decreases-pairs : goal.decreases-pairs
decreases-pairs g l = length l.pairs
