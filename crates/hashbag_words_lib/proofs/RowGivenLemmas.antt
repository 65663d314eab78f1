-- A row that was read from a line, and given to a sink.
use Rattle.std.proofs.Common.{◌≡◌, ℕ, List, [], ◌∷◌, Result, Ok, Err, OnOk, subst}
use Rattle.hashbag_words_lib.specs.Counts.{TakesRows}
use Rattle.hashbag_words_lib.specs.Merging.{AddsLine}
use Rattle.hashbag_words_lib.specs.Rows.{IsRowOf}
use Rattle.hashbag_words_lib.specs.declared.rows.RowForm.{RowForm}

module _ {M K X E : Type 0} (has : M → K → List (List ℕ × ℕ) → Type 0) (r : Result X E) where
  -- the row is this one
  pub given_as : (old new : K) (token text : List ℕ) (count n : ℕ) → token ≡ text → count ≡ n → OnOk r (TakesRows has old new ((token, count) ∷ [])) → OnOk r (TakesRows has old new ((text, n) ∷ []))
  given_as old new token text count n is same h =
      subst (λ (t : List ℕ). OnOk r (TakesRows has old new ((t, n) ∷ []))) is (subst (λ (k : ℕ). OnOk r (TakesRows has old new ((token, k) ∷ []))) same h)

-- and the line says it
pub given_line : {M K X E : Type 0} (has : M → K → List (List ℕ × ℕ) → Type 0) (r : Result X E) (form : RowForm) (line : List ℕ) (old new : K) (token : List ℕ) (count : ℕ) → IsRowOf form line (token, count)
    → OnOk r (TakesRows has old new ((token, count) ∷ [])) → OnOk r (AddsLine has form line old new)
given_line has (Ok x) form line old new token count read takes = record { token = token; count = count; read = read; takes = takes }
given_line has (Err e) form line old new token count read takes = tt
