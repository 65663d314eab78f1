use Rattle.std.proofs.Common.{◌≡◌, ℕ, ◌+◌, ◌%◌, ◌<◌, ◌≤◌, ◌⊎◌, take, false}
use Rattle.hashbag_slots.specs.Slots.{path_slot, holds, slot_at}
use Rattle.hashbag_slots.specs.Columns.{slots_of}
use Rattle.hashbag_slots.proofs.Strides.{FreeSoFar}
use Rattle.hashbag_slots.proofs.probe.probe_on.Given as goal

-- as in `find_on`; and `free` is the first of the passed slots that isn't Live, or the number of slots if all are Live
abbrev pub invariant-sixteens : goal.invariant-sixteens
invariant-sixteens g l = (step : ℕ) × (l.at < l.slots)
    × (((l.at + 16 < l.slots) × (path_slot l.slots l.hash step ≡ l.at + 16)) ⊎ ((l.slots ≤ l.at + 16) × (path_slot l.slots l.hash step ≡ 0)))
    × ((k : ℕ) → k < step → holds (g.Q.Key.names l.key) (slot_at (slots_of (take l.slots l.tags) l.cells) (path_slot l.slots l.hash k)) ≡ false)
    × (l.left % 16 ≡ 0) × ((step + l.left ≡ l.slots + 16) ⊎ ((l.slots ≤ step + l.left) × (path_slot l.slots l.hash step % 16 ≡ 0)))
    × FreeSoFar l.slots l.hash (take l.slots l.tags) step l.free

abbrev pub decreases-sixteens : goal.decreases-sixteens
decreases-sixteens g l = l.left
