-- What a returned number leaves of a slot that has no value.
use Rattle.std.proofs.Common.{◌≡◌, ℕ, false, refl}
use Rattle.hashbag.specs.Retained.{slot_retained}
use Rattle.hashbag.specs.Slots.{is_live}
use Rattle.hashbag.specs.SlotWords.{Slot, Empty, Removed, Moved, Live}

pub dead_kept : {T : Type 0} (a : ℕ) (s : Slot T) → is_live s ≡ false → slot_retained a s ≡ s
dead_kept a Empty none = refl
dead_kept a Removed none = refl
dead_kept a Moved none = refl
dead_kept a (Live v n) none = absurd (cc)
