-- What the joins of two bags give altogether, from the plain lists X and Y of their occurrences. The order of X and of Y means nothing, and the
-- states that hash the values don't appear.
--
-- A join names a value by an instance that occurs in X, or, if X has none, in Y. `Contains` compares instances.
use Rattle.std.specs.Prelude.{◌≡◌, ℕ, ◌-◌, ◌<◌, ◌^◌, ◌==◌, ◌↔◌, ℤ, pos, negsuc, ◌-ℤ◌, Bool, List, ◌++◌, map, filter}
use Rattle.std.specs.Int.{int_max, int_min}
use Rattle.std.specs.List.{IsDistinct, Contains}
use Rattle.std.specs.Map.{keys_of}
use Rattle.hashbag_core.specs.Occurrences.{count}
use Rattle.hashbag_core.specs.Walks.{IsEach}

-- `isize::MIN`
abbrev pub least_signed : ℤ
least_signed = negsuc (2 ^ 63 - 1)

-- `isize::MAX`
abbrev pub greatest_signed : ℤ
greatest_signed = pos (2 ^ 63 - 1)

-- the number from `isize::MIN` to `isize::MAX` that is nearest to z
abbrev pub saturated : ℤ → ℤ
saturated z = int_max least_signed (int_min z greatest_signed)

module _ {T : Type 0} (eq : T → T → Bool) where
  -- the items of Y whose value doesn't occur in X
  abbrev pub only_in_second : List T → List T → List T
  only_in_second X Y = filter (λ y. count eq y X == 0) Y

  -- J has each value of X once, and then each value that Y alone has, once, each with its counts in X and in Y
  pub record IsOuterJoin (X Y : List T) (J : List (T × ℕ × ℕ)) : Type 0 where
    pub first : List T
    pub second : List T
    pub of_first : IsEach eq X first
    pub of_second : IsEach eq (only_in_second X Y) second
    pub counts : J ≡ map (λ v. (v, count eq v X, count eq v Y)) (first ++ second)

  -- E has no value twice. It has (v, n) exactly if v is an item of X, n is how many more of v X has than Y, and n isn't 0
  pub record IsDifference (X Y : List T) (E : List (T × ℕ)) : Type 0 where
    pub once : IsDistinct eq (keys_of E)
    pub exactly : (v : T) (n : ℕ) → Contains E (v, n) ↔ (Contains X v × (n ≡ count eq v X - count eq v Y) × (0 < n))

  -- M has no value twice. It has (v, n) exactly if v is an item of X, n is its count in X and isn't 0, and Y has none of v
  pub record IsNotIn (X Y : List T) (M : List (T × ℕ)) : Type 0 where
    pub once : IsDistinct eq (keys_of M)
    pub exactly : (v : T) (n : ℕ) → Contains M (v, n) ↔ (Contains X v × (n ≡ count eq v X) × (0 < n) × (count eq v Y ≡ 0))

  -- G has the values of an outer join, in its order, each with its count in X less its count in Y, saturated to an `isize`
  pub record IsSignedDifference (X Y : List T) (G : List (T × ℤ)) : Type 0 where
    pub outer : List (T × ℕ × ℕ)
    pub is_outer : IsOuterJoin X Y outer
    pub signed : G ≡ map (λ j. (j.0, saturated (pos j.1 -ℤ pos j.2))) outer
