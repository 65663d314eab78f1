-- What the steps of two bags return.
use Rattle.std.specs.Prelude.{◌≡◌, ℕ, List, nat_eq}
use Rattle.std.specs.Ordering.{nat_cmp}
use Rattle.serde_json.specs.Data.{Data, number, unsigned}
use Rattle.serde_json.specs.View.{view}
use Rattle.hashbag.specs.Joins.{IsOuterJoin, IsDifference, IsNotIn, IsSignedDifference}
use Rattle.hashbag.specs.JsonTrees.{IsBagTree}
use Rattle.hashbag.specs.Script.{Steps, left_by, limit_by, replies_to}
use Rattle.hashbag_run_lib.specs.declared.answers.Answers.{Answers}

-- d is the tree of a bag of numbers that means the list X and has the limit `most`
abbrev pub IsTreeOfNumbers : List ℕ → ℕ → Data → Type 0
IsTreeOfNumbers X most d = IsBagTree nat_eq nat_cmp (λ n. number (unsigned n)) X most d

-- these are the results of the steps of two bags that are empty at first: the replies of each bag, the joins of the bags that the steps
-- leave, and the trees and limits of these bags
pub record AreAnswersTo (steps_a steps_b : Steps ℕ) (answers : Answers) : Type 0 where
  pub replies_a : answers.replies_a.items ≡ replies_to nat_eq steps_a
  pub replies_b : answers.replies_b.items ≡ replies_to nat_eq steps_b
  pub outer : IsOuterJoin nat_eq (left_by nat_eq steps_a) (left_by nat_eq steps_b) answers.joins.outer.items
  pub difference : IsDifference nat_eq (left_by nat_eq steps_a) (left_by nat_eq steps_b) answers.joins.difference.items
  pub signed : IsSignedDifference nat_eq (left_by nat_eq steps_a) (left_by nat_eq steps_b) answers.joins.signed.items
  pub not_in : IsNotIn nat_eq (left_by nat_eq steps_a) (left_by nat_eq steps_b) answers.joins.not_in.items
  pub tree_a : IsTreeOfNumbers (left_by nat_eq steps_a) (limit_by nat_eq steps_a) (view answers.tree_a)
  pub tree_b : IsTreeOfNumbers (left_by nat_eq steps_b) (limit_by nat_eq steps_b) (view answers.tree_b)
