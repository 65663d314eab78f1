-- Tables of slots out of which no value was carried.
use Rattle.std.proofs.Common.{◌≡◌, ℕ, ◌<◌, List, length, replicate, sym, subst, ◌∙◌, slice_set, inl, inr}
use Rattle.hashbag_slots.specs.declared.slots.Slot.{Slot}
use Rattle.hashbag_slots.specs.declared.slots.Slot.TheVariants.{Empty, Moved}
use Rattle.hashbag_slots.proofs.Edits.{set_cases}
use Rattle.hashbag_slots.proofs.Tables.{slot_at-replicate}
use Rattle.hashbag_table.specs.Tables.{NoneMoved, Fills}

module _ {T : Type 0} where
  pub unmoved_blank : (ss : List (Slot T)) (n : ℕ) → ss ≡ replicate n Empty → NoneMoved ss
  unmoved_blank ss n e = subst NoneMoved (sym e) (λ p at. let z = slot_at-replicate {T = T} n p in absurd (cc))

  pub unmoved_set : (ss : List (Slot T)) (p : ℕ) (s : Slot T) → p < length ss → (s ≡ Moved → ⊥) → NoneMoved ss → NoneMoved (slice_set ss p s)
  unmoved_set ss p s within not_moved h q at = elim (set_cases ss p s within q) [
    | inl x ↦ not_moved (sym x.1 ∙ at)
    | inr x ↦ h q (sym x.1 ∙ at)
  ]

  pub unmoved_filled : (k : ℕ) (old new : List (Slot T)) → Fills k old new → NoneMoved old → NoneMoved new
  unmoved_filled k old new f h p at = elim (f.each p) [
    | inl x ↦ h p (sym x ∙ at)
    | inr x ↦ absurd (let live = x.2 in cc)
  ]
