-- The joins of two bags as lists of lent values. X and Y list the occurrences of both bags; their order means nothing.
use Rattle.std.specs.Prelude.{ℕ, ℤ, Bool, List, map}
use denote.Ref.{Bor}
use Rattle.hashbag_core.specs.Bag.{Bag, Means}
use Rattle.hashbag_core.specs.Joins.{IsOuterJoin, IsDifference, IsNotIn, IsSignedDifference}

module _ {T S S2 : Type 0} (eq : T → T → Bool) (a : Bag T S) (b : Bag T S2) where
  -- the list is the outer join
  abbrev pub CollectsOuterJoin : List (Bor T × ℕ × ℕ) → Type 0
  CollectsOuterJoin joins = (X Y : List T) → Means a X → Means b Y → IsOuterJoin eq X Y (map (λ j. (j.0.now, j.1, j.2)) joins)

  -- the list is the difference
  abbrev pub CollectsDifference : List (Bor T × ℕ) → Type 0
  CollectsDifference joins = (X Y : List T) → Means a X → Means b Y → IsDifference eq X Y (map (λ e. (e.0.now, e.1)) joins)

  -- the list is the signed difference
  abbrev pub CollectsSignedDifference : List (Bor T × ℤ) → Type 0
  CollectsSignedDifference joins = (X Y : List T) → Means a X → Means b Y → IsSignedDifference eq X Y (map (λ e. (e.0.now, e.1)) joins)

  -- the list is what is not in the second bag
  abbrev pub CollectsNotIn : List (Bor T × ℕ) → Type 0
  CollectsNotIn joins = (X Y : List T) → Means a X → Means b Y → IsNotIn eq X Y (map (λ e. (e.0.now, e.1)) joins)
