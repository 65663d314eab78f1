use Rattle.std.proofs.Common.{◌-◌, ◌^◌, ◌≤◌}
use Rattle.hashbag_slots.specs.Slots.{IsSlotCount}
use Rattle.hashbag_table.proofs.LeastLemmas.{Below}
use Rattle.hashbag_table.proofs.capacity.least_slots.Given as goal

-- no number of slots below this one is enough
abbrev pub invariant-slots : goal.invariant-slots
invariant-slots l = record {
  count : IsSlotCount l.slots;
  from : l.from ≤ l.slots;
  below : Below l.from l.values l.slots;
}

abbrev pub decreases-slots : goal.decreases-slots
decreases-slots l = 2 ^ 60 - l.slots
