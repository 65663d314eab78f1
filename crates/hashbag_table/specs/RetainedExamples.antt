-- What returned numbers leave, computed.
use Rattle.std.specs.Prelude.{◌≡◌, ℕ, List, [], ◌∷◌, refl}
use denote.Ref.{Bor}
use denote.Param.Members.{Mut}
use Rattle.hashbag_slots.specs.declared.slots.Slot.{Slot}
use Rattle.hashbag_slots.specs.declared.slots.Slot.TheVariants.{Empty, Removed, Moved, Live}
use Rattle.hashbag_table.specs.Returned.{MayReturn, retained_entries}
use Rattle.hashbag_table.specs.Retained.{live_retained, slot_retained, LeavesSlots}

-- the value 7 with the count 5, and a lesser number returned, a greater one, and 0
lesser_answer : live_retained {T = ℕ} 7 5 3 ≡ Live 7 3
lesser_answer = refl

greater_answer : live_retained {T = ℕ} 7 5 9 ≡ Live 7 5
greater_answer = refl

answer_of_0 : live_retained {T = ℕ} 7 5 0 ≡ Removed
answer_of_0 = refl

stays_removed : slot_retained {T = ℕ} 3 Removed ≡ Removed
stays_removed = refl

-- 5 keeps its count, 15 has the returned one, and 31 is removed
abbrev walk : List (ℕ × ℕ)
walk = (5, 2) ∷ (15, 7) ∷ (31, 4) ∷ []

map_kept : retained_entries walk (9 ∷ 3 ∷ 0 ∷ []) ≡ (5, 2) ∷ (15, 3) ∷ []
map_kept = refl

abbrev slots : List (Slot ℕ)
slots = Live 5 2 ∷ Empty ∷ Live 15 7 ∷ Moved ∷ Live 31 4 ∷ []

abbrev slots_kept : List (Slot ℕ)
slots_kept = Live 5 2 ∷ Empty ∷ Live 15 3 ∷ Moved ∷ Removed ∷ []

module _ {F : Type 0} (g : Mut F (Bor ℕ × (ℕ × Unit {0})) ℕ) (f f1 f2 f3 : F) (first : MayReturn g f (5, 2) 9 f1) (second : MayReturn g f1 (15, 7) 3 f2) (third : MayReturn g f2 (31, 4) 0 f3) where
  all_slots : LeavesSlots g f slots slots_kept f3
  all_slots = (f1, (9, first, refl), (f1, (refl, refl), (f2, (3, second, refl), (f2, (refl, refl), (f3, (0, third, refl), refl)))))
