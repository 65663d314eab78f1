-- How two bags differ, by the plain lists that they mean.
use Rattle.std.specs.Prelude.{ℕ, ℤ, Bool, List}
use Rattle.hashbag_core.specs.Bag.{Bag, Means}
use Rattle.hashbag_core.specs.Joins.{IsOuterJoin, IsDifference, IsNotIn, IsSignedDifference}

module _ {T S : Type 0} (eq : T → T → Bool) (first second : Bag T S) where
  -- what one bag has more often than another, with how many more
  abbrev pub IsDifferenceOf : List (T × ℕ) → Type 0
  IsDifferenceOf join = (X Y : List T) → Means first X → Means second Y → IsDifference eq X Y join

  -- what one bag has that another lacks, with its count
  abbrev pub IsNotInOf : List (T × ℕ) → Type 0
  IsNotInOf join = (X Y : List T) → Means first X → Means second Y → IsNotIn eq X Y join

  -- what either bag has, with its count in the first less its count in the second
  abbrev pub IsSignedDifferenceOf : List (T × ℤ) → Type 0
  IsSignedDifferenceOf join = (X Y : List T) → Means first X → Means second Y → IsSignedDifference eq X Y join

  -- what either bag has, with both counts
  abbrev pub IsOuterJoinOf : List (T × ℕ × ℕ) → Type 0
  IsOuterJoinOf join = (X Y : List T) → Means first X → Means second Y → IsOuterJoin eq X Y join
