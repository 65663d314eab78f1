use Rattle.std.proofs.Common.{ℕ, ◌+◌, ◌-◌, ◌≤◌, leb}
use Rattle.hashbag_slots.specs.Columns.{AgreeFrom, tag_at}
use Rattle.hashbag_slots.specs.Group.{IsMaskFrom}
use Rattle.hashbag_slots.proofs.live.drop_group.Given as goal

-- what is left of the bits tells of the places from `at` on, before which all cells are empty. Each step passes a place
abbrev pub invariant-live : goal.invariant-live
invariant-live g l = (at : ℕ) × (l.from + l.steps ≤ at) × (at ≤ l.from + 16) × IsMaskFrom (λ p. leb 128 (tag_at l.tags p)) l.from at (l.from + 16) l.ahead × AgreeFrom at l.tags l.cells

abbrev pub decreases-live : goal.decreases-live
decreases-live g l = 16 - l.steps
