-- What walks over a bag give altogether, from the plain list X of its occurrences. The order of X means nothing, and neither does the order in which
-- a walk gives the values.
use Rattle.std.specs.Prelude.{◌≡◌, ℕ, ◌≤◌, Bool, List, length, sum_by, map, flat_map, replicate, All}
use Rattle.std.specs.Borrow.{Bor}
use Rattle.std.specs.List.{IsDistinct, Contains}
use Rattle.hashbag_core.specs.Bag.{Bag, Means, occurrences}
use Rattle.hashbag_core.specs.Occurrences.{greatest_total, count, distinct_count}

-- a value that is lent, with its count
abbrev pub seen : {T : Type 0} → Bor T × ℕ → T × ℕ
seen e = (e.0.now, e.1)

module _ {T : Type 0} (eq : T → T → Bool) where
  -- ys has each value of X once, as an instance that occurs in X, and nothing else
  pub record IsEach (X ys : List T) : Type 0 where
    pub once : IsDistinct eq ys
    pub all : All (λ x. Contains ys x) X
    pub only : All (λ y. Contains X y) ys

  -- W has each value of X once, as an instance that occurs in X, with its count, and nothing else
  pub record IsSetWalk (X : List T) (W : List (T × ℕ)) : Type 0 where
    pub values : List T
    pub each : IsEach X values
    pub counts : W ≡ map (λ v. (v, count eq v X)) values

  -- W has each value of X as often as X has it. All occurrences of a value are before the next value
  pub record IsWalk (X W : List T) : Type 0 where
    pub values : List T
    pub each : IsEach X values
    pub pieces : W ≡ flat_map (λ v. replicate (count eq v X) v) values

  -- W is a walk of every list that the bag means, and is itself such a list. So it is as long as the bag, and its length fits a `usize`
  pub record IsWalkOf {S : Type 0} (bag : Bag T S) (W : List T) : Type 0 where
    pub walk : (X : List T) → Means bag X → IsWalk X W
    pub means : Means bag W
    pub len : length W ≡ length bag.items
    pub fits : length bag.items ≤ greatest_total

  -- W is a set walk of each list that the bag means. If each value is repeated as often as its count says, W becomes such a list. So the counts add
  -- up to the length of the bag. There are as many entries as distinct values, and no more than occurrences. Each of these numbers fits a `usize`
  pub record IsSetWalkOf {S : Type 0} (bag : Bag T S) (W : List (T × ℕ)) : Type 0 where
    pub walk : (X : List T) → Means bag X → IsSetWalk X W
    pub means : Means bag (occurrences W)
    pub total : sum_by (λ e. e.1) W ≡ length bag.items
    pub distinct : length W ≡ distinct_count eq bag.items
    pub at_most : length W ≤ length bag.items
    pub fits : length bag.items ≤ greatest_total
