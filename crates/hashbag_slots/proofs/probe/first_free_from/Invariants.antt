use Rattle.std.proofs.Common.{ℕ, ◌-◌, ◌<◌, ◌≤◌, get_or}
use Rattle.hashbag_slots.specs.Slots.{path_slot}
use Rattle.hashbag_slots.proofs.probe.first_free_from.Given as goal

-- each slot that was passed is Live
abbrev pub invariant-steps : goal.invariant-steps
invariant-steps l = (k : ℕ) → k < l.step → 128 ≤ get_or l.tags (path_slot l.slots l.hash k) 0

abbrev pub decreases-steps : goal.decreases-steps
decreases-steps l = l.slots - l.step
