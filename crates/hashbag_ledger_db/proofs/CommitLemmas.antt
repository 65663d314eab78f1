-- One commit at the end of steps inside a transaction, or none.
use Rattle.std.proofs.Common.{◌≡◌, List, true, false, IsTrue, IsErr, is_ok, Result, Ok, Err, inl, inr, refl, ◌∙◌, arith}
use Rattle.sqlite.specs.Tree.{Trees}
use Rattle.sqlite.specs.Store.{Ghosts}
use Rattle.sqlite.specs.declared.error.Error.{Error}
use Rattle.sqlite.specs.Held.{Held, state}
use Rattle.sqlite.specs.State.{HasCleanDisk, IsRolledBack, Shows, Survives}
use Rattle.sqlite.specs.Steps.{FailsToCommit}
use Rattle.sqlite.proofs.StateLemmas.{survives_then}
use Rattle.sqlite.proofs.Callers.{survives_begin}
use Rattle.hashbag_ledger_db.specs.Commits.{IsInside, IsOneCommit, RunsAll}
use Rattle.hashbag_ledger_db.specs.Statements.{Run}

pub failed : {X E : Type 0} (r : Result X E) → IsErr r → is_ok r ≡ false
failed (Ok x) h = absurd cc
failed (Err e) h = refl

module _ {S : Type 0} (g : Ghosts S) (runs : List Run) (old : Held S) where
  -- nothing was begun
  pub nothing_begun : IsOneCommit g runs old old false
  nothing_begun = record {
    database = (state g old).now;
    done = λ clean is. cc;
    undone = λ clean shown is. refl;
    crash = record { clean = omega arith; shield = λ h. h; counts = omega arith; limit = refl; closes = λ _ h. inl h; crash = λ _ db h. inl h };
  }

  module _ (mid : Held S) (inside : IsInside (state g (record old { in_transaction = true })) (state g mid)) where
    kept : HasCleanDisk (state g mid) → IsTrue (state g mid).is_open → (state g mid).committed ≡ (state g old).committed
    kept clean shown = (inside.keeps clean).committed shown

    begun_survives : Survives (state g old) (state g mid) (λ _. ⊥)
    begun_survives = survives_begin g old (state g mid) (λ _. ⊥) inside.survives

    -- the transaction was undone
    pub undone_at_end : (end : Held S) → (HasCleanDisk (state g end) → IsRolledBack (state g mid) (state g end)) → Survives (state g mid) (state g end) (λ _. ⊥) → IsOneCommit g runs old end false
    undone_at_end end back survives = record {
      database = (state g mid).now;
      done = λ clean is. cc;
      undone = λ clean shown is.
          let rolled = back clean in
          let earlier : HasCleanDisk (state g mid) = omega (arith, survives.clean, clean) in
          (rolled.undone shown).1 ∙ kept earlier (rolled.was_open shown);
      crash = survives_then (state g old) (state g mid) (state g end) (λ _. ⊥) (λ _. ⊥) (λ (t : Trees). t ≡ (state g mid).now.trees) (λ _ db none. absurd none) (λ _ db none. absurd none) begun_survives survives;
    }

    -- the commit failed
    pub not_committed : (end : Held S) (e : Error) → (HasCleanDisk (state g end) → FailsToCommit (state g mid) (state g end) e) → Survives (state g mid) (state g end) (λ t. t ≡ (state g mid).now.trees)
        → IsOneCommit g runs old end false
    not_committed end e fails survives = record {
      database = (state g mid).now;
      done = λ clean is. cc;
      undone = λ clean shown is.
          let earlier : HasCleanDisk (state g mid) = omega (arith, survives.clean, clean) in
          elim (fails clean) [
            | inl failed ↦ (failed.3.undone shown).1 ∙ kept earlier (failed.3.was_open shown)
            | inr ended ↦ ended.2.0.committed_is ∙ kept earlier ended.2.0.was_open
          ];
      crash = survives_then (state g old) (state g mid) (state g end) (λ _. ⊥) (λ (t : Trees). t ≡ (state g mid).now.trees) (λ (t : Trees). t ≡ (state g mid).now.trees) (λ _ db none. absurd none) (λ _ db is. is) begun_survives survives;
    }

    -- it was made
    pub committed_at_end : (HasCleanDisk (state g mid) → RunsAll g runs (record old { in_transaction = true }) mid) → (end : Held S)
        → (HasCleanDisk (state g end) → Shows (state g mid) (state g end) (state g mid).now (state g mid).now false) → Survives (state g mid) (state g end) (λ t. t ≡ (state g mid).now.trees)
        → IsOneCommit g runs old end true
    committed_at_end ran end shows survives = record {
      database = (state g mid).now;
      done = λ clean is. let earlier : HasCleanDisk (state g mid) = omega (arith, survives.clean, clean) in ((shows clean).committed_is, record { end = mid; ran = ran earlier; made = refl });
      undone = λ clean shown is. cc;
      crash = survives_then (state g old) (state g mid) (state g end) (λ _. ⊥) (λ (t : Trees). t ≡ (state g mid).now.trees) (λ (t : Trees). t ≡ (state g mid).now.trees) (λ _ db none. absurd none) (λ _ db is. is) begun_survives survives;
    }
