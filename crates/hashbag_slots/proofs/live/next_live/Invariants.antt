use Rattle.std.proofs.Common.{ℕ, ◌-◌, ◌<◌, ◌≤◌, get_or}
use Rattle.hashbag_slots.proofs.live.next_live.Given as goal

-- no slot that was passed is Live
abbrev pub invariant-places : goal.invariant-places
invariant-places l = (l.from ≤ l.at) × ((q : ℕ) → l.from ≤ q → q < l.at → get_or l.tags q 0 < 128)

abbrev pub decreases-places : goal.decreases-places
decreases-places l = l.slots - l.at
