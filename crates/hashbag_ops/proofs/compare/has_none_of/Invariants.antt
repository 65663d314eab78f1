use Rattle.std.proofs.Common.{◌≡◌, ◌<◌, ◌⊎◌, true, min, All}
use Rattle.std.specs.List.{Contains}
use Rattle.hashbag_core.specs.Occurrences.{count}
use Rattle.hashbag_ops.proofs.compare.has_none_of.Given as goal

-- a value isn't in both bags, or is still to come; and what is to come is in the bag that is walked over
abbrev pub invariant-loop-value : goal.invariant-loop-value
invariant-loop-value g l = record {
  apart : (v : g.row.T.Denot) → (min (count g.T.PartialEq.eq v l.walked.items) (count g.T.PartialEq.eq v l.other.items) ≡ 0)
      ⊎ ((x : g.row.T.Denot) × Contains l.value-iterator (x, count g.T.PartialEq.eq v l.walked.items) × (g.T.PartialEq.eq v x ≡ true));
  there : All (λ e. 0 < count g.T.PartialEq.eq e.0 l.walked.items) l.value-iterator;
}
