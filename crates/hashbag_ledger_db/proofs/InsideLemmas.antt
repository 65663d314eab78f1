-- Steps inside a transaction, one after the other.
use Rattle.std.proofs.Common.{◌≡◌, ℕ, List, [], ◌∷◌, ◌++◌, Result, Ok, Err, false, IsTrue, refl, sym, ◌∙◌, subst, inl, inr, arith}
use Rattle.std.proofs.lemmas.Bool.{cases_Bool}
use Rattle.sqlite.specs.Order.{Row}
use Rattle.sqlite.specs.Store.{Ghosts}
use Rattle.sqlite.specs.declared.error.Error.{Error}
use Rattle.sqlite.specs.declared.error.Error.TheVariants.{SqliteFailure}
use Rattle.sqlite.specs.declared.error.ErrorCode.TheVariants.{TransactionState}
use Rattle.sqlite.specs.Held.{Held, state}
use Rattle.sqlite.specs.State.{State, HasCleanDisk, KeepsCommit, Survives, ExecutesInside}
use Rattle.sqlite.proofs.StateLemmas.{survives_then}
use Rattle.sqlite.proofs.InsideLemmas.{inside_keeps, keeps_then}
use Rattle.hashbag_ledger_db.specs.Commits.{IsInside, Ran, RunsAll}
use Rattle.hashbag_ledger_db.specs.Statements.{Run}

pub inside_refl : (s : State) → IsInside s s
inside_refl s = record {
  keeps = λ _. record { was_open = λ h. h; committed = λ _. refl };
  survives = record { clean = omega arith; shield = λ h. h; counts = omega arith; limit = refl; closes = λ _ h. inl h; crash = λ _ db h. inl h };
}

pub inside_then : (a b c : State) → IsInside a b → IsInside b c → IsInside a c
inside_then a b c one two = record {
  keeps = λ clean. let step = two.survives.clean in keeps_then a b c (one.keeps (omega arith)) (two.keeps clean);
  survives = survives_then a b c _ _ _ (λ _ db none. none) (λ _ db none. none) one.survives two.survives;
}

-- a statement that is run inside a transaction, or after it has ended
pub inside_ran : {S : Type 0} (g : Ghosts S) (old new : Held S) (sql : List ℕ) (params : Row) (r : Result ℕ Error) → ((state g old).in_transaction ≡ false → (r ≡ Err (SqliteFailure TransactionState)) × (new ≡ old))
    → (HasCleanDisk (state g new) → IsTrue (state g old).in_transaction → ExecutesInside 0 sql params (state g old) (state g new) r) → Survives (state g old) (state g new) (λ _. ⊥) → IsInside (state g old) (state g new)
inside_ran g old new sql params r ended runs survives = record {
  keeps = λ clean. elim (cases_Bool (state g old).in_transaction) [
    | inl within ↦ inside_keeps (state g old) (state g new) 0 false sql params r (runs clean within)
    | inr outside ↦ subst (λ h. KeepsCommit (state g old) (state g h)) (sym (ended outside).1) (record { was_open = λ h. h; committed = λ _. refl })
  ];
  survives = survives;
}

-- a statement that succeeded, ran
pub ran_when_ok : {S : Type 0} (g : Ghosts S) (old new : Held S) (sql : List ℕ) (params : Row) (r : Result ℕ Error) → ((state g old).in_transaction ≡ false → (r ≡ Err (SqliteFailure TransactionState)) × (new ≡ old))
    → (HasCleanDisk (state g new) → IsTrue (state g old).in_transaction → ExecutesInside 0 sql params (state g old) (state g new) r) → (n : ℕ) → r ≡ Ok n → HasCleanDisk (state g new) → Ran g (sql, params) old new
ran_when_ok g old new sql params r ended runs n is clean = elim (cases_Bool (state g old).in_transaction) [
  | inl within ↦ (n, subst (λ s. ExecutesInside 0 sql params (state g old) (state g new) s) is (runs clean within))
  | inr outside ↦ absurd (let e : Ok n ≡ Err (SqliteFailure TransactionState) = sym is ∙ (ended outside).0 in cc)
]

-- one more run
pub runs_more : {S : Type 0} (g : Ghosts S) (runs : List Run) (run : Run) (old mid new : Held S) → RunsAll g runs old mid → Ran g run mid new → RunsAll g (runs ++ run ∷ []) old new
runs_more g [] run old mid new same ran = (new, subst (λ h. Ran g run h new) same ran, refl)
runs_more g (first ∷ runs) run old mid new all ran = (all.0, all.1, runs_more g runs run all.0 mid new all.2 ran)
