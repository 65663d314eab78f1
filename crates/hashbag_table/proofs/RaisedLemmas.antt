-- More of a value that is present.
use Rattle.std.proofs.Common.{◌≡◌, ℕ, ◌+◌, ◌<◌, ◌^◌, Bool, List, [], ◌∷◌, Some, None, refl, sym, subst, ◌∙◌, arith}
use Rattle.std.specs.Cmp.{IsEquivalence}
use Rattle.std.specs.Map.{lookup_entry}
use Rattle.std.specs.List.Sorted.{IsPermutation}
use Rattle.hashbag_slots.specs.Slots.{recounted, slot_entry}
use Rattle.hashbag_table.specs.declared.table.Spot.{Spot}
use Rattle.hashbag_table.specs.Entries.{IsCounted, with_count, count_of}
use Rattle.hashbag_table.specs.Tables.{Tables, KeepsRoom, HoldsIn, slot_in, Writes, Rewrites, Swaps}
use Rattle.hashbag_table.proofs.SpotLemmas.{held_entry, count_present, added_swapped}
use Rattle.hashbag_table.proofs.RoomKeptLemmas.{kept_Rewrites}

-- `is`: what a look-up of x found is at the spot
module _ {T : Type 0} (eq : T → T → Bool) (laws : IsEquivalence eq) (x : T) (n : ℕ) (es : List (T × ℕ)) (old : Tables T) (spot : Spot) (is : slot_entry (slot_in old spot) ≡ lookup_entry (eq x) es) where
  pub raised_there : HoldsIn (eq x) old spot → lookup_entry (eq x) es ≡ None → ⊥
  raised_there held none = let h = held_entry (eq x) old spot held in let no : Some h.0 ≡ None = sym h.1 ∙ is ∙ none in absurd (cc)

  pub raised_fits : count_of eq x es + n < 2 ^ 64 → (e : T × ℕ) → slot_entry (slot_in old spot) ≡ Some e → e.1 + n < 2 ^ 64
  raised_fits fits e here = let c = count_present eq x es e (sym is ∙ here) in omega arith

  module _ (held : HoldsIn (eq x) old spot) (before : ℕ) (count : (e : T × ℕ) → slot_entry (slot_in old spot) ≡ Some e → before ≡ e.1) where
    pub raised_before : before ≡ count_of eq x es
    raised_before = let h = held_entry (eq x) old spot held in count h.0 h.1 ∙ sym (count_present eq x es h.0 (sym is ∙ h.1))

    pub raised_added : (new : List (T × ℕ)) → IsCounted eq es → ((e : T × ℕ) → slot_entry (slot_in old spot) ≡ Some e → Swaps es new e ((e.0, before + n) ∷ [])) → IsPermutation (with_count eq x (count_of eq x es + n) es) new
    raised_added new counted swap =
        let h = held_entry (eq x) old spot held in
        added_swapped eq x es laws n new h.0 counted (sym is ∙ h.1) (subst (λ b. Swaps es new h.0 ((h.0.0, b + n) ∷ [])) (count h.0 h.1) (swap h.0 h.1))

    module _ (new : Tables T) (after : Writes spot (recounted (before + n) (slot_in old spot)) old new) where
      pub raised_slot : Rewrites (eq x) (recounted (count_of eq x es + n)) old new
      raised_slot = record {
        spot = spot;
        held = held;
        after = subst (λ b. Writes spot (recounted (b + n) (slot_in old spot)) old new) raised_before after;
      }

      pub raised_kept : KeepsRoom 0 old new
      raised_kept = kept_Rewrites (eq x) (recounted (count_of eq x es + n)) old new (λ v m. refl) raised_slot
