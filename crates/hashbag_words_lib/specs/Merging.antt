-- How a line of counts is added.
use Rattle.std.specs.Prelude.{ℕ, List, [], ◌∷◌}
use Rattle.hashbag_words_lib.specs.Counts.{TakesRows}
use Rattle.hashbag_words_lib.specs.Rows.{IsRowOf}
use Rattle.hashbag_words_lib.specs.declared.rows.RowForm.{RowForm}

-- the line is read as a token and a count, and these were given to the sink
pub record AddsLine {M K : Type 0} (has : M → K → List (List ℕ × ℕ) → Type 0) (form : RowForm) (line : List ℕ) (old new : K) : Type 0 where
  pub token : List ℕ
  pub count : ℕ
  pub read : IsRowOf form line (token, count)
  pub takes : TakesRows has old new ((token, count) ∷ [])
