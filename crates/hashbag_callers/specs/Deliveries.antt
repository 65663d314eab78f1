-- The greatest surplus of a delivery.
use Rattle.std.specs.Prelude.{◌≡◌, ℕ, ◌+◌, ◌<◌, ◌≤◌, Bool, List}
use Rattle.hashbag.specs.Occurrences.{count}

-- each value occurs in X at most n times more than in Y, and, if n isn't 0, some value exactly n times more
pub record IsGreatestSurplus {T : Type 0} (eq : T → T → Bool) (X Y : List T) (n : ℕ) : Type 0 where
  pub most : (v : T) → count eq v X ≤ count eq v Y + n
  pub reached : 0 < n → (v : T) × (count eq v X ≡ count eq v Y + n)
