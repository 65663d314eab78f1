-- What two bags have in common, and what a call leaves of a bag's slots.
use Rattle.std.specs.Prelude.{◌≡◌, ℕ, Bool, true, false, List, length}
use Rattle.hashbag.specs.Bag.{Bag}
use Rattle.hashbag.specs.Equality.{bag_eq}
use Rattle.hashbag.specs.Slots.{is_live, slot_at}
use Rattle.hashbag.specs.SlotWords.{Slot}
use Rattle.hashbag.specs.Tables.{Tables}

-- two bags are equal, and have the same limit
abbrev pub AreSameBags : {T S : Type 0} → (T → T → Bool) → Bag T S → Bag T S → Type 0
AreSameBags eq a b = (bag_eq eq a b ≡ true) × (a.most ≡ b.most)

-- the newer table has as many slots as before
abbrev pub KeepsSlots : {T : Type 0} → Tables T → Tables T → Type 0
KeepsSlots old new = length new.newer ≡ length old.newer

-- the slot at a place is s, which isn't Live
abbrev pub IsDeadAt : {T : Type 0} → List (Slot T) → ℕ → Slot T → Type 0
IsDeadAt ss p s = (slot_at ss p ≡ s) × (is_live s ≡ false)
