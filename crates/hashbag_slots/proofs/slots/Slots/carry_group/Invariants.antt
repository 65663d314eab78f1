use Rattle.std.proofs.Common.{ℕ, ◌+◌, ◌-◌, ◌≤◌}
use Rattle.hashbag_slots.specs.Hashing.{hash_under}
use Rattle.hashbag_slots.specs.Group.{IsMaskFrom}
use Rattle.hashbag_slots.specs.Slots.{is_live, slot_at}
use Rattle.hashbag_slots.specs.Columns.{CarriesInto}
use Rattle.hashbag_slots.proofs.slots.Slots.carry_group.Given as goal

-- the slots before `at` are carried, and what is left of the bits tells of the places from `at` on
abbrev pub invariant-live : goal.invariant-live
invariant-live g l = (at : ℕ) × (l.from ≤ at) × (at ≤ l.from + 16) × IsMaskFrom (λ p. is_live (slot_at l.initial.older.slots p)) l.from at (l.from + 16) l.ahead
    × CarriesInto g.T.PartialEq.eq (hash_under g.T.Hash.hash_input g.S.BuildHasher g.S.Hasher.Hasher l.state) l.from (at - l.from) l.initial.self l.initial.older l.self l.older

abbrev pub decreases-live : goal.decreases-live
decreases-live g l = l.ahead
