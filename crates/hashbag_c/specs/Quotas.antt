-- What a list says of how many occurrences a bag keeps.
use Rattle.std.specs.Prelude.{◌≡◌, ◌≤◌, ℕ, Bool, if◌then◌else◌, List, [], ◌∷◌, min}
use Rattle.hashbag_table.specs.Tables.{room}
use Rattle.hashbag_core.specs.Bag.{Bag}
use Rattle.hashbag_core.specs.Occurrences.{count}

module _ {T : Type 0} (eq : T → T → Bool) where
  -- the number in `ns` at the place of the first listed value that equals v, 0 if there is none. A value without a number isn't listed
  abbrev pub quota : T → List T → List ℕ → ℕ
  quota v [] ns = 0
  quota v (u ∷ us) [] = 0
  quota v (u ∷ us) (n ∷ ns) = if eq v u then n else quota v us ns

  -- each value occurs in `after` as often as in `bag`, or its quota if that is less
  abbrev pub HasQuotas : {S : Type 0} → List T → List ℕ → Bag T S → Bag T S → Type 0
  HasQuotas us ns bag after = (v : T) → count eq v after.items ≡ min (count eq v bag.items) (quota v us ns)

  -- the same in a bag whose limit and keys are those of `bag`, and whose room isn't lower
  pub record Retains {S : Type 0} (us : List T) (ns : List ℕ) (bag after : Bag T S) : Type 0 where
    pub counts : HasQuotas us ns bag after
    pub limit : after.most ≡ bag.most
    pub hasher : after.hasher ≡ bag.hasher
    pub keeps_room : room bag.tables ≤ room after.tables
