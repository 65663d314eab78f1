-- What a key names in a map. `names` is a test: a value passes it if the key names it. All values that pass are equal.
use Rattle.std.specs.Prelude.{ℕ, Bool, List, Option, unwrap_or}
use Rattle.std.specs.Map.{lookup, lookup_entry}

module _ {T : Type 0} (names : T → Bool) where
  -- the stored instance that the key names, and its count
  abbrev pub named_entry : List (T × ℕ) → Option (T × ℕ)
  named_entry es = lookup_entry names es

  -- the count of the value that the key names, 0 if that value is absent
  abbrev pub named_count : List (T × ℕ) → ℕ
  named_count es = unwrap_or (lookup names es) 0
