-- The output of an input without a bad line.
use Rattle.std.specs.Prelude.{◌≡◌, ℕ, ℤ, List, nat_eq}
use Rattle.serde_json.specs.Data.{Data}
use Rattle.hashbag.specs.Joins.{IsOuterJoin, IsDifference, IsNotIn, IsSignedDifference}
use Rattle.hashbag.specs.Script.{Steps, left_by, limit_by, replies_to}
use Rattle.hashbag_run_lib.specs.Answers.{IsTreeOfNumbers}
use Rattle.hashbag_run_lib.specs.Format.{AreStepsOf}
use Rattle.hashbag_run_lib.specs.Joined.{IsRising}
use Rattle.hashbag_run_lib.specs.Lines.{output, join_lines}

-- `rising` has the items of a list for which `Is` holds, in ascending order of values
pub record IsByValue {X : Type 0} (value : X → ℕ) (Is : List X → Type 0) (rising : List X) : Type 0 where
  pub listed : List X
  pub is : Is listed
  pub rises : IsRising value listed rising

-- the text is the replies to the steps of two empty bags, the joins of the bags that the steps leave, by value, and the trees of these bags
pub record IsOutputOf (steps_a steps_b : Steps ℕ) (text : List ℕ) : Type 0 where
  pub outer : List (ℕ × ℕ × ℕ)
  pub difference : List (ℕ × ℕ)
  pub signed : List (ℕ × ℤ)
  pub not_in : List (ℕ × ℕ)
  pub tree_a : Data
  pub tree_b : Data
  pub is_outer : IsByValue (λ j. j.0) (IsOuterJoin nat_eq (left_by nat_eq steps_a) (left_by nat_eq steps_b)) outer
  pub is_difference : IsByValue (λ e. e.0) (IsDifference nat_eq (left_by nat_eq steps_a) (left_by nat_eq steps_b)) difference
  pub is_signed : IsByValue (λ e. e.0) (IsSignedDifference nat_eq (left_by nat_eq steps_a) (left_by nat_eq steps_b)) signed
  pub is_not_in : IsByValue (λ e. e.0) (IsNotIn nat_eq (left_by nat_eq steps_a) (left_by nat_eq steps_b)) not_in
  pub is_tree_a : IsTreeOfNumbers (left_by nat_eq steps_a) (limit_by nat_eq steps_a) tree_a
  pub is_tree_b : IsTreeOfNumbers (left_by nat_eq steps_b) (limit_by nat_eq steps_b) tree_b
  pub is : text ≡ output (replies_to nat_eq steps_a) (replies_to nat_eq steps_b) (join_lines outer difference signed not_in) tree_a tree_b

-- no line of the input is bad, and the text is the output of its steps
pub record IsRunOf (input text : List ℕ) : Type 0 where
  pub steps_a : Steps ℕ
  pub steps_b : Steps ℕ
  pub steps : AreStepsOf input steps_a steps_b
  pub is_output : IsOutputOf steps_a steps_b text
