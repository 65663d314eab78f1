use Rattle.std.proofs.Common.{◌≡◌, ◌+◌, ◌-◌, ◌<◌, ◌≤◌, ◌⊎◌, All}
use Rattle.std.specs.List.{Contains}
use Rattle.hashbag.specs.Occurrences.{count}
use Rattle.hashbag_callers.proofs.DeliveryLemmas.{CameMore}
use Rattle.hashbag_callers.proofs.deliveries.greatest_surplus.Given as goal

-- a value's surplus is no more than the greatest so far, or is still to come; and that greatest was reached
abbrev pub invariant-loop-surplus : goal.invariant-loop-surplus
invariant-loop-surplus g l = record {
  most : (v : g.row.T.Denot) → (count g.T.PartialEq.eq v l.delivered.items ≤ count g.T.PartialEq.eq v l.ordered.items + l.greatest)
      ⊎ ((x : g.row.T.Denot) × Contains l.surplus-iterator (x, count g.T.PartialEq.eq v l.delivered.items - count g.T.PartialEq.eq v l.ordered.items));
  listed : All (CameMore g.T.PartialEq.eq l.delivered.items l.ordered.items) l.surplus-iterator;
  reached : 0 < l.greatest → (v : g.row.T.Denot) × (count g.T.PartialEq.eq v l.delivered.items ≡ count g.T.PartialEq.eq v l.ordered.items + l.greatest);
}
