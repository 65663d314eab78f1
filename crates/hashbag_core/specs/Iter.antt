-- What an `Iter` still gives.
use Rattle.std.specs.Prelude.{◌≡◌, ℕ, ◌<◌, List, ◌++◌, length, replicate, All, Option, Some, None}
use Rattle.std.specs.Borrow.{Bor}
use Rattle.std.specs.Map.{values_of}
use Rattle.hashbag_core.specs.Bag.{occurrences}

-- the occurrences of the current value that are left, and then the occurrences of the entries after it
abbrev pub occurrences_left : {T : Type 0} → Option (Bor T × ℕ) → List (T × ℕ) → List T
occurrences_left None es = occurrences es
occurrences_left (Some e) es = replicate e.1 e.0.now ++ occurrences es

-- the invariant of every `Iter`: `to_come` is the number of occurrences to come, and each entry to come has at least one
pub record IsPending {T : Type 0} (at : Option (Bor T × ℕ)) (es : List (T × ℕ)) (to_come : ℕ) : Type 0 where
  pub sum : to_come ≡ length (occurrences_left at es)
  pub positive : All (λ n. 0 < n) (values_of es)
