use Rattle.std.proofs.Common.{◌≡◌, ℕ, ◌+◌, ◌%◌, ◌<◌, ◌≤◌, ◌⊎◌, take, false}
use Rattle.hashbag_slots.specs.Slots.{path_slot, holds, slot_at}
use Rattle.hashbag_slots.specs.Columns.{slots_of}
use Rattle.hashbag_slots.proofs.probe.find_on.Given as goal

-- `step` slots of the path were passed: all up to the last of the sixteen from `at` on, or up to the end of the table. None of them holds the value.
-- What is left to read is as many as the others, and 16 more until the path has come to slot 0, as fewer than 16 may be passed before
abbrev pub invariant-sixteens : goal.invariant-sixteens
invariant-sixteens g l = (step : ℕ) × (l.at < l.slots)
    × (((l.at + 16 < l.slots) × (path_slot l.slots l.hash step ≡ l.at + 16)) ⊎ ((l.slots ≤ l.at + 16) × (path_slot l.slots l.hash step ≡ 0)))
    × ((k : ℕ) → k < step → holds (g.Q.Key.names l.key) (slot_at (slots_of (take l.slots l.tags) l.cells) (path_slot l.slots l.hash k)) ≡ false)
    × (l.left % 16 ≡ 0) × ((step + l.left ≡ l.slots + 16) ⊎ ((l.slots ≤ step + l.left) × (path_slot l.slots l.hash step % 16 ≡ 0)))

abbrev pub decreases-sixteens : goal.decreases-sixteens
decreases-sixteens g l = l.left
