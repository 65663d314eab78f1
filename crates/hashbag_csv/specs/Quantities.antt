-- Lists of articles with quantities.
use Rattle.std.specs.Prelude.{◌≡◌, ℕ, ◌<◌, if◌then◌else◌, Bool, true, List, sum_by, All}
use Rattle.std.specs.List.{Contains}
use Rattle.std.specs.List.Sorted.{IsStrictlySortedBy}
use Rattle.std.specs.Map.{keys_of}
use Rattle.std.specs.declared.cmp.Ordering.{Ordering}
use Rattle.hashbag_core.specs.Occurrences.{count}

-- the sum of all numbers of a list
abbrev pub number_sum : {T : Type 0} → List (T × ℕ) → ℕ
number_sum L = sum_by (λ e. e.1) L

module _ {T : Type 0} (eq : T → T → Bool) where
  -- the sum of the numbers of v in a list
  abbrev pub quantity : T → List (T × ℕ) → ℕ
  quantity v L = sum_by (λ e. if eq v e.0 then e.1 else 0) L

  -- how many entries of a list have v
  abbrev pub times : T → List (T × ℕ) → ℕ
  times v L = count eq v (keys_of L)

  -- L has each article v with `number_of v` above 0 once, with the number `number_of v`; the articles are in ascending order
  pub record IsBalance (cmp : T → T → Ordering) (number_of : T → ℕ) (L : List (T × ℕ)) : Type 0 where
    pub rising : IsStrictlySortedBy cmp (keys_of L)
    pub counts : All (λ e. (e.1 ≡ number_of e.0) × (0 < e.1)) L
    pub each : (v : T) → 0 < number_of v → (e : T × ℕ) × Contains L e × (eq v e.0 ≡ true)
