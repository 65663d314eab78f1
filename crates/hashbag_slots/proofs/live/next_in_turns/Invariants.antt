use Rattle.std.proofs.Common.{◌≡◌, ◌%◌, ◌≤◌, length}
use Rattle.hashbag_slots.specs.Walks.{of_turn, places_left}
use Rattle.hashbag_slots.proofs.live.next_in_turns.Given as goal

-- what was left is what is left from here on
abbrev pub invariant-turns : goal.invariant-turns
invariant-turns l = (places_left l.initial.turn l.initial.from l.newer l.older ≡ places_left l.turn l.from l.newer l.older) × (l.from % 16 ≡ 0) × (l.from ≤ length (of_turn l.turn l.newer l.older))

abbrev pub decreases-turns : goal.decreases-turns
decreases-turns l = l.turn
