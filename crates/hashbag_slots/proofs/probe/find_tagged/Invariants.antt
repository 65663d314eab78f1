use Rattle.std.specs.Prelude.{◌≡◌, ◌==◌, ℕ, ◌<◌, ◌≤◌, false, take}
use Rattle.hashbag_slots.specs.Group.{IsMaskOf, from_place_on}
use Rattle.hashbag_slots.specs.Slots.{holds, slot_at}
use Rattle.hashbag_slots.specs.Columns.{tag_at, slots_of}
use Rattle.hashbag_slots.proofs.probe.find_tagged.Given as goal

-- what is left of the bits tells of the places from `at` on, and no slot with the fingerprint that was passed holds the value
abbrev pub invariant-fingerprints : goal.invariant-fingerprints
invariant-fingerprints g l =
    (at : ℕ) × (l.from ≤ at)
    × ((until : ℕ) → IsMaskOf (λ p. tag_at (take l.slots l.tags) p == l.fingerprint) l.from until l.bits → IsMaskOf (from_place_on (λ p. tag_at (take l.slots l.tags) p == l.fingerprint) at) l.from until l.ahead)
    × ((p : ℕ) → l.from ≤ p → p < at → tag_at (take l.slots l.tags) p ≡ l.fingerprint → holds (g.Q.Key.names l.key) (slot_at (slots_of (take l.slots l.tags) l.cells) p) ≡ false)

abbrev pub decreases-fingerprints : goal.decreases-fingerprints
decreases-fingerprints g l = l.ahead
