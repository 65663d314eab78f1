-- What an undo does to a stock.
use Rattle.std.proofs.Common.{◌≡◌, ℕ, ℤ, List, [], ◌∷◌, map, String, Global, refl, ◌∙◌, ap, subst, string_cmp}
use Rattle.std.specs.String.{string_eq}
use Rattle.sqlite.specs.Store.{Ghosts}
use Rattle.sqlite.specs.Held.{Held}
use Rattle.hashbag_ledger_db.specs.Undone.{entered_in, IsUndone, IsUndoPut}
use Rattle.hashbag_ledger_db.specs.declared.undoing.Found.{Found}
use Rattle.hashbag_ledger_lib.specs.Changes.{AreChanges, Rises}
use Rattle.hashbag_ledger_lib.specs.Entries.{entries_of}
use Rattle.hashbag_ledger_lib.specs.Kinds.{undone_of}
use Rattle.hashbag_ledger_lib.specs.Seals.{AreRowsOf}
use Rattle.hashbag_ledger_lib.specs.Settled.{listed}
use Rattle.hashbag_ledger_lib.specs.Undos.{opposites_of, FallsBelowZero, TakesBack}
use Rattle.hashbag_ledger_lib.specs.declared.extras.Extra.{Extra}
use Rattle.hashbag_ledger_lib.specs.declared.ledger.booking.Booked.{Booked}
use Rattle.hashbag_ledger_lib.specs.declared.movements.Entry.{Entry}
use Rattle.hashbag_ledger_lib.specs.declared.movements.Movement.{Movement}
use Rattle.hashbag_ledger_lib.specs.declared.once.Batch.{Batch}
use Rattle.hashbag_ledger_lib.specs.declared.rows.RowChange.{RowChange}
use Rattle.hashbag_ledger_lib.specs.declared.sealing.Draft.{Draft}

-- each row undoes the batch that its draft undoes
pub undoes_in : (scale : ℕ) (ds : List Draft) (es : List (Entry (String Global))) (xs : List Extra) (bs : List Batch) → AreRowsOf scale ds es xs bs → map (λ b. b.undoes) bs ≡ map (λ d. undone_of d.kind) ds
undoes_in scale [] es xs [] are = refl
undoes_in scale [] es xs (b ∷ bs) are = absurd are
undoes_in scale (d ∷ ds) es xs [] are = absurd are
undoes_in scale (d ∷ ds) es xs (b ∷ bs) are = λ i. are.0.undoes i ∷ undoes_in scale ds _ _ bs are.1 i

module _ {S : Type 0} (g : Ghosts S) (found : Found) (old later : Held S) (status : ℕ) (ms : List (Movement (String Global))) (same : ms ≡ entered_in found) where
  pub taken_back : (number : ℤ) (booked : Booked (String Global)) (changed : List RowChange) → number ≡ found.entered.batch → status ≡ 0
      → TakesBack string_eq string_cmp (listed string_eq found.balance.items) ms booked.balance.items
      → booked.entries.items ≡ entries_of string_eq (listed string_eq found.balance.items) (opposites_of ms)
      → (Rises found.balance.items → AreChanges found.balance.items booked.balance.items changed) → IsUndoPut g number booked changed old later → IsUndone g found old later status
  taken_back number booked changed is ok back entries changes put = record {
    done = λ _. record {
      booked = booked;
      changed = changed;
      back = subst (λ (l : List (Movement (String Global))). TakesBack string_eq string_cmp (listed string_eq found.balance.items) l booked.balance.items) same back;
      entries = entries ∙ ap (λ (l : List (Movement (String Global))). entries_of string_eq (listed string_eq found.balance.items) (opposites_of l)) same;
      changes = changes;
      put = subst (λ (n : ℤ). IsUndoPut g n booked changed old later) is put;
    };
    denied = λ other. absurd (other ok);
  }

  pub left : status ≡ 1 → later ≡ old → (v : String Global) → FallsBelowZero string_eq (listed string_eq found.balance.items) ms v → IsUndone g found old later status
  left one kept v below = record {
    done = λ zero. cc;
    denied = λ _. record {
      same = kept;
      article = v;
      below = subst (λ (l : List (Movement (String Global))). FallsBelowZero string_eq (listed string_eq found.balance.items) l v) same below;
    };
  }
