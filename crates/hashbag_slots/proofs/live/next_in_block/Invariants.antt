use Rattle.std.proofs.Common.{◌≡◌, ℕ, ◌-◌, ◌%◌, ◌<◌, ◌≤◌, length, get_or}
use Rattle.hashbag_slots.specs.Walks.{pass_of}
use Rattle.hashbag_slots.proofs.live.next_in_block.Given as goal

-- the group at `at` is of the pass, and no slot of the pass before it is Live
abbrev pub invariant-groups : goal.invariant-groups
invariant-groups l = (l.from ≤ l.at) × (l.at ≤ length l.tags) × (l.at % 16 ≡ 0) × (pass_of l.at ≡ pass_of l.from) × ((q : ℕ) → l.from ≤ q → q < l.at → pass_of q ≡ pass_of l.from → get_or l.tags q 0 < 128)

abbrev pub decreases-groups : goal.decreases-groups
decreases-groups l = l.slots - l.at
