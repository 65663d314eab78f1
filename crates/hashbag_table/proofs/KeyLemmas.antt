-- What a key names is what equals any value that it names; and what an addition by a key leaves.
use Rattle.std.proofs.Common.{◌≡◌, ℕ, ◌+◌, ◌<◌, ◌^◌, Bool, true, List, [], ◌∷◌, Some, None, option_map, unwrap_or, sym, ap, subst, ◌∙◌, arith}
use Rattle.std.specs.Cmp.{IsEquivalence}
use Rattle.std.specs.Map.{lookup_entry}
use Rattle.hashbag_slots.specs.Slots.{recounted, slot_at, slot_entry}
use Rattle.hashbag_slots.proofs.Probing.{holder}
use Rattle.hashbag_table.specs.declared.table.Spot.{Spot}
use Rattle.hashbag_table.specs.declared.table.Spot.TheVariants.{Newer, Waiting}
use Rattle.hashbag_table.specs.Entries.{IsCounted}
use Rattle.hashbag_table.specs.Additions.{AddsNamed, Stores}
use Rattle.hashbag_table.specs.Named.{named_entry, named_count}
use Rattle.hashbag_table.specs.Table.{Table}
use Rattle.hashbag_table.specs.Tables.{Tables, HoldsIn, slot_in, Writes, Swaps}
use Rattle.hashbag_table.proofs.AddLemmas.{adds_raised, adds_stored}
use Rattle.hashbag_table.proofs.EntryLemmas.{lookup-entry, entry_to_front, counted_rearranged}
use Rattle.hashbag_table.proofs.SpotLemmas.{held_entry}

module _ {T : Type 0} (names : T → Bool) where
  -- the count of an entry that the key names, and that of none
  pub named_present : (es : List (T × ℕ)) (e : T × ℕ) → named_entry names es ≡ Some e → named_count names es ≡ e.1
  named_present es e h = ap (λ o. unwrap_or o 0) (lookup-entry names es ∙ ap (option_map (λ (y : T × ℕ). y.1)) h)

  pub named_absent : (es : List (T × ℕ)) → named_entry names es ≡ None → named_count names es ≡ 0
  named_absent es h = ap (λ o. unwrap_or o 0) (lookup-entry names es ∙ ap (option_map (λ (y : T × ℕ). y.1)) h)

  -- what is held at a spot is a value that the key names
  held_named : (t : Tables T) (spot : Spot) → HoldsIn names t spot → (v : T) × (names v ≡ true)
  held_named t (Newer p) h = let l = holder names (slot_at t.newer p) h.1 in (l.0, l.3)
  held_named t (Waiting p) h = let l = holder names (slot_at t.waiting p) h.1 in (l.0, l.3)

module _ {T : Type 0} (eq : T → T → Bool) (laws : IsEquivalence eq) (names : T → Bool) (one : (v w : T) → names v ≡ true → names w ≡ eq w v) where
  -- the test is that of being equal to a value that the key names
  pub named_is : (v : T) → names v ≡ true → names ≡ eq v
  named_is v does = λ i w. (one v w does ∙ laws.symm w v) i

  pub named_found : (v : T) → names v ≡ true → (es : List (T × ℕ)) → named_entry names es ≡ lookup_entry (eq v) es
  named_found v does es = ap (λ (test : T → Bool). lookup_entry test es) (named_is v does)

  module _ {S : Type 0} (n : ℕ) (old : Table T S) (spot : Spot) (is : slot_entry (slot_in old.tables spot) ≡ named_entry names old.entries) where
    pub named_fits : named_count names old.entries + n < 2 ^ 64 → (e : T × ℕ) → slot_entry (slot_in old.tables spot) ≡ Some e → e.1 + n < 2 ^ 64
    named_fits fits e here = let c = named_present names old.entries e (sym is ∙ here) in omega arith

    module _ (held : HoldsIn names old.tables spot) (before : ℕ) (count : (e : T × ℕ) → slot_entry (slot_in old.tables spot) ≡ Some e → before ≡ e.1) where
      pub named_before : before ≡ named_count names old.entries
      named_before = let h = held_entry names old.tables spot held in count h.0 h.1 ∙ sym (named_present names old.entries h.0 (sym is ∙ h.1))

      -- more of a value that is there
      pub named_raised : (new : Table T S) → IsCounted eq old.entries → Writes spot (recounted (before + n) (slot_in old.tables spot)) old.tables new.tables
          → ((e : T × ℕ) → slot_entry (slot_in old.tables spot) ≡ Some e → Swaps old.entries new.entries e ((e.0, before + n) ∷ []))
          → new.hasher ≡ old.hasher → IsCounted eq new.entries → AddsNamed eq names n old new
      named_raised new was after swap hasher counted =
          let h = held_named names old.tables spot held in let v = h.0 in
          let at : HoldsIn (eq v) old.tables spot = subst (λ (test : T → Bool). HoldsIn test old.tables spot) (named_is v h.1) held in
          let found : slot_entry (slot_in old.tables spot) ≡ lookup_entry (eq v) old.entries = is ∙ ap (λ (test : T → Bool). lookup_entry test old.entries) (named_is v h.1) in
          (v, h.1, adds_raised eq laws v n old new spot found at before count was after swap hasher counted)

  -- a value that was made of the key, where it named none that was there
  pub named_arrived : {S : Type 0} (old new : Table T S) (v : T) (n : ℕ) → names v ≡ true → named_entry names old.entries ≡ None → Stores eq v n old new → AddsNamed eq names n old new
  named_arrived old new v n does none stored = (v, does, adds_stored eq laws v n old new (sym (named_found v does old.entries) ∙ none) stored)

  -- a count is at least 1
  pub named_positive : (es : List (T × ℕ)) (e : T × ℕ) → IsCounted eq es → named_entry names es ≡ Some e → 0 < e.1
  named_positive es e counted found = (counted_rearranged laws _ _ (entry_to_front names es e found) counted).positive 0 e.1 (omega arith)
