use Rattle.std.proofs.Common.{◌-◌, ◌*◌, ◌≤◌}
use Rattle.hashbag_slots.specs.Columns.{AgreeFrom}
use Rattle.hashbag_slots.proofs.live.drop_live.Given as goal

abbrev pub invariant-groups : goal.invariant-groups
invariant-groups g l = record {
  within : l.group ≤ l.groups;
  agree : AgreeFrom (l.group * 16) l.tags l.cells;
}

abbrev pub decreases-groups : goal.decreases-groups
decreases-groups g l = l.groups - l.group
