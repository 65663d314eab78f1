use Rattle.std.proofs.Common.{ℕ, ◌-◌, ◌<◌, ◌≤◌, get_or}
use Rattle.hashbag_slots.specs.Slots.{path_slot}
use Rattle.hashbag_slots.proofs.probe.first_free.Given as goal

-- each slot that was passed is Live
abbrev pub invariant-near : goal.invariant-near
invariant-near l = (k : ℕ) → k < l.step → 128 ≤ get_or l.tags (path_slot l.slots l.hash k) 0

abbrev pub decreases-near : goal.decreases-near
decreases-near l = 16 - l.step
