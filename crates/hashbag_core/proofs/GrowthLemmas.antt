-- The slots of each bag on the way hold its list, so each growth has the number of slots that follows from that list.
use Rattle.std.proofs.Common.{◌≡◌, ℕ, ◌-◌, ◌<◌, Bool, List, [], ◌∷◌, length, sym, ap, subst, ◌∙◌, inl, inr, arith}
use Rattle.std.specs.Cmp.{IsEquivalence}
use Rattle.std.proofs.lemmas.Bool.{cases_lt}
use Rattle.std.proofs.lemmas.List.{length-append, length-replicate}
use Rattle.hashbag_slots.specs.declared.slots.Slot.{Slot}
use Rattle.hashbag_slots.specs.declared.slots.Slot.TheVariants.{Empty}
use Rattle.hashbag_slots.specs.Slots.{entries}
use Rattle.hashbag_table.specs.Tables.{Tables, most_used, values, grown_slots, room, entries_of}
use Rattle.hashbag_table.proofs.SlotLemmas.{length-entries}
use Rattle.hashbag_core.specs.Bag.{Bag}
use Rattle.hashbag_core.specs.Growths.{Grows, GrowsInTurn}
use Rattle.hashbag_core.specs.Held.{AreHeld}
use Rattle.hashbag_core.specs.Inserts.{Inserts, InTurn}
use Rattle.hashbag_core.specs.Occurrences.{count, distinct_count}
use Rattle.hashbag_core.proofs.DistinctLemmas.{distinct_count-occurrences}

-- slots that hold a list have as many Live ones as it has distinct values
pub values_held : {T : Type 0} {eq : T → T → Bool} (laws : IsEquivalence eq) (items : List T) (t : Tables T) → AreHeld eq items t → values t ≡ distinct_count eq items
values_held {eq = eq} laws items t h =
    let both = length-append (entries t.newer) (entries t.waiting) in
    let newer = length-entries t.newer in
    let waiting = length-entries t.waiting in
    let distinct = distinct_count-occurrences laws (entries_of t.newer t.waiting) h.counted in
    let as_many = ap (λ X. distinct_count eq X) h.entries in
    omega (arith, both, newer, waiting, distinct, as_many)

module _ {T S : Type 0} {eq : T → T → Bool} (laws : IsEquivalence eq) where
  -- one insertion
  pub grows : (v : T) (n : ℕ) (before after : Bag T S) → values before.tables ≡ distinct_count eq before.items → Inserts eq v n before after → 0 < n → count eq v before.items ≡ 0 → room before.tables ≡ 0 → Grows eq before after
  grows v n before after number h some absent full =
      let came = h.arrives some absent in
      let empty : Slot T = Empty in
      record {
        slots = (came.grown full).fills.same_length ∙ length-replicate (grown_slots (length before.tables.newer) (values before.tables)) empty ∙ ap (λ s. grown_slots (length before.tables.newer) s) number;
        room = came.room_grown full ∙ ap (λ s. most_used (length after.tables.newer) - s - 1) number;
        built = came.built.grown full;
      }

  -- what an insertion leaves of held slots
  pub still_held : (v : T) (n : ℕ) (before after : Bag T S) → AreHeld eq before.items before.tables → Inserts eq v n before after → AreHeld eq after.items after.tables
  still_held v n before after held h = elim (cases_lt 0 n) [
    | inl some ↦ h.held some
    | inr none ↦ subst (λ (b : Bag T S). AreHeld eq b.items b.tables) (sym (h.none (omega (arith, none)))) held
  ]

  -- insertions in turn
  pub grows_in_turn : (pairs : List (T × ℕ)) (before after : Bag T S) → AreHeld eq before.items before.tables → InTurn eq pairs before after → GrowsInTurn eq pairs before after
  grows_in_turn [] before after held h = h
  grows_in_turn (p ∷ pairs) before after held h =
      let number = values_held laws before.items before.tables held in
      (h.0, h.1, number, grows p.0 p.1 before h.0 number h.1, grows_in_turn pairs h.0 after (still_held p.0 p.1 before h.0 held h.1) h.2)
