-- The lines of four joins, each in ascending order of values.
use Rattle.std.specs.Prelude.{◌≡◌, ℕ, ℤ, List, ◌++◌, IsPermutation}
use Rattle.std.specs.List.Sorted.{IsNonDecreasingBy}
use Rattle.hashbag_run_lib.specs.declared.joined.JoinLists.{JoinLists}
use Rattle.hashbag_run_lib.specs.Lines.{join_lines}

-- ys has the items of xs, in ascending order of their values
pub record IsRising {X : Type 0} (value : X → ℕ) (xs ys : List X) : Type 0 where
  pub same : IsPermutation xs ys
  pub order : IsNonDecreasingBy value ys

-- the lines of the joins were appended, each join in ascending order of values
pub record PrintsJoins (joins : JoinLists ℕ) (before after : List ℕ) : Type 0 where
  pub outer : List (ℕ × ℕ × ℕ)
  pub difference : List (ℕ × ℕ)
  pub signed : List (ℕ × ℤ)
  pub not_in : List (ℕ × ℕ)
  pub outer_rises : IsRising (λ j. j.0) joins.outer.items outer
  pub difference_rises : IsRising (λ e. e.0) joins.difference.items difference
  pub signed_rises : IsRising (λ e. e.0) joins.signed.items signed
  pub not_in_rises : IsRising (λ e. e.0) joins.not_in.items not_in
  pub text : after ≡ before ++ join_lines outer difference signed not_in
