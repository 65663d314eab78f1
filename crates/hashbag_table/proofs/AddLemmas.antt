-- What an addition leaves: of a value that is present, and of one that is absent.
use Rattle.std.proofs.Common.{◌≡◌, ℕ, ◌+◌, Bool, [], ◌∷◌, None, IsSome, Some, sym, subst, arith}
use Rattle.std.specs.Cmp.{IsEquivalence}
use Rattle.std.specs.List.Sorted.{IsPermutation}
use Rattle.std.specs.Map.{lookup_entry}
use Rattle.std.proofs.lemmas.List.Sorted.{length_permutation}
use Rattle.hashbag_slots.specs.Slots.{recounted, slot_entry}
use Rattle.hashbag_table.specs.declared.table.Spot.{Spot}
use Rattle.hashbag_table.specs.Additions.{Adds, Stores}
use Rattle.hashbag_table.specs.Entries.{IsCounted}
use Rattle.hashbag_table.specs.Table.{Table, IsMapOf}
use Rattle.hashbag_table.specs.Tables.{Arrives, HoldsIn, slot_in, Writes, Swaps}
use Rattle.hashbag_table.proofs.EntryLemmas.{without_absent}
use Rattle.hashbag_table.proofs.RaisedLemmas.{raised_there, raised_added, raised_slot, raised_kept}
use Rattle.hashbag_table.proofs.RoomKeptLemmas.{keeps_more, keeps_Arrives}
use Rattle.hashbag_table.proofs.SpotLemmas.{count_absent, added_absent}

module _ {T S : Type 0} (eq : T → T → Bool) (laws : IsEquivalence eq) (v : T) (n : ℕ) (old new : Table T S) where
  -- more of a value that is present
  pub adds_raised : (spot : Spot) → slot_entry (slot_in old.tables spot) ≡ lookup_entry (eq v) old.entries → HoldsIn (eq v) old.tables spot
      → (before : ℕ) → ((e : T × ℕ) → slot_entry (slot_in old.tables spot) ≡ Some e → before ≡ e.1) → IsCounted eq old.entries → Writes spot (recounted (before + n) (slot_in old.tables spot)) old.tables new.tables
      → ((e : T × ℕ) → slot_entry (slot_in old.tables spot) ≡ Some e → Swaps old.entries new.entries e ((e.0, before + n) ∷ [])) → new.hasher ≡ old.hasher → IsCounted eq new.entries → Adds eq v n old new
  adds_raised spot found held before count was after swap hasher counted =
      let kept = raised_kept eq laws v n old.entries old.tables spot found held before count new.tables after in
      record {
        map = record { means = raised_added eq laws v n old.entries old.tables spot found held before count new.entries was swap; hasher = hasher; counted = counted };
        new_set = λ none. absurd (raised_there eq laws v n old.entries old.tables spot found held none);
        slot = λ _. raised_slot eq laws v n old.entries old.tables spot found held before count new.tables after;
        arrives = λ none. absurd (raised_there eq laws v n old.entries old.tables spot found held none);
        room = λ _. keeps_more 1 _ _ kept;
        same_room = λ _. kept;
      }

  module _ (absent : lookup_entry (eq v) old.entries ≡ None) where
    -- an absent value is stored
    pub stores_arrived : IsMapOf eq old ((v, n) ∷ old.entries) new → Arrives old.tables new.tables → Stores eq v n old new
    stores_arrived map arrives =
        let zero = count_absent eq v old.entries absent in
        let more = length_permutation _ _ map.means in
        record {
          map = record { means = subst (λ rest. IsPermutation ((v, n) ∷ rest) new.entries) (sym (without_absent (eq v) old.entries absent)) map.means; hasher = map.hasher; counted = map.counted };
          new_set = λ _. omega (arith, more);
          slot = λ some. let no = subst IsSome absent some in absurd (cc);
          arrives = λ _. arrives;
          room = λ some. keeps_Arrives _ _ arrives some;
          same_room = λ some. absurd (omega (arith, zero, some));
        }

    -- and so n more of it came
    pub adds_stored : Stores eq v n old new → Adds eq v n old new
    adds_stored stored =
        let zero = count_absent eq v old.entries absent in
        record {
          map = record { means = added_absent eq v old.entries n new.entries absent stored.map.means; hasher = stored.map.hasher; counted = stored.map.counted };
          new_set = stored.new_set;
          slot = λ some. let no = subst IsSome absent some in absurd (cc);
          arrives = stored.arrives;
          room = stored.room;
          same_room = λ some. absurd (omega (arith, zero, some));
        }
