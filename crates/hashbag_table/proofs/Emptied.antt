-- Slots none of which is Live, Removed or Moved.
use Rattle.std.proofs.Common.{◌≡◌, suc, ◌+◌, cond, List, [], ◌∷◌, length, refl, ap, arith, replicate}
use Rattle.std.proofs.lemmas.List.Sums.{sum_by-cons}
use Rattle.hashbag_slots.specs.declared.slots.Slot.{Slot}
use Rattle.hashbag_slots.specs.declared.slots.Slot.TheVariants.{Empty, Removed, Moved, Live}
use Rattle.hashbag_slots.specs.Slots.{is_live, is_removed, live_count, removed_count}
use Rattle.hashbag_table.specs.Tables.{NoneMoved}

module _ {T : Type 0} where
  pub all_empty : (ss : List (Slot T)) → live_count ss ≡ 0 → removed_count ss ≡ 0 → NoneMoved ss → ss ≡ replicate (length ss) Empty
  all_empty [] live removed moved = refl
  all_empty (Empty ∷ ss) live removed moved = ap (λ xs. Empty ∷ xs) (all_empty ss live removed (λ p. moved (suc p)))
  all_empty (Removed ∷ ss) live removed moved =
      absurd (let more : removed_count (Removed ∷ ss) ≡ 1 + removed_count ss = sum_by-cons (λ x. cond (is_removed x) 1 0) Removed ss in omega (arith, more, removed))
  all_empty (Moved ∷ ss) live removed moved = absurd (moved 0 refl)
  all_empty (Live v n ∷ ss) live removed moved =
      absurd (let more : live_count (Live v n ∷ ss) ≡ 1 + live_count ss = sum_by-cons (λ x. cond (is_live x) 1 0) (Live v n) ss in omega (arith, more, live))
