-- What a ledger's calls change.
use Rattle.std.specs.Prelude.{◌≡◌, ℕ, Bool, false}
use Rattle.hashbag.specs.Bag.{Bag}
use Rattle.hashbag.specs.Occurrences.{count}

-- the new stock has n of v, and as many of every other value as the old stock
pub record ChangesOnly {T S : Type 0} (eq : T → T → Bool) (v : T) (n : ℕ) (old new : Bag T S) : Type 0 where
  pub changed : count eq v new.items ≡ n
  pub others : (w : T) → eq w v ≡ false → count eq w new.items ≡ count eq w old.items
