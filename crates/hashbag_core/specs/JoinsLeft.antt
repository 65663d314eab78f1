-- What a join still gives. `es` are the entries that its walk still gives, and Y is the list of the bag in which the join looks values up.
use Rattle.std.specs.Prelude.{ℕ, ◌-◌, ◌==◌, nat_lt, ℤ, pos, ◌-ℤ◌, Bool, List, map, filter}
use Rattle.hashbag_core.specs.Occurrences.{count}
use Rattle.hashbag_core.specs.Joins.{saturated}

module _ {T : Type 0} (eq : T → T → Bool) (Y : List T) where
  -- each value with its count, and with its count in Y
  abbrev pub with_second : List (T × ℕ) → List (T × ℕ × ℕ)
  with_second es = map (λ e. (e.0, e.1, count eq e.0 Y)) es

  -- each value with a greater count than in Y, with the excess
  abbrev pub excesses : List (T × ℕ) → List (T × ℕ)
  excesses es = filter (λ e. nat_lt 0 e.1) (map (λ e. (e.0, e.1 - count eq e.0 Y)) es)

  -- each value that doesn't occur in Y, with its count
  abbrev pub lacking : List (T × ℕ) → List (T × ℕ)
  lacking es = filter (λ e. count eq e.0 Y == 0) es

-- each value with 0 before its count
abbrev pub with_no_first : {T : Type 0} → List (T × ℕ) → List (T × ℕ × ℕ)
with_no_first es = map (λ e. (e.0, 0, e.1)) es

-- each value with its first count less its second, saturated to an `isize`
abbrev pub subtracted : {T : Type 0} → List (T × ℕ × ℕ) → List (T × ℤ)
subtracted js = map (λ j. (j.0, saturated (pos j.1 -ℤ pos j.2))) js

-- ---- the other joins, from the list of an outer join

-- each value whose first count is above its second, with the excess
abbrev pub excesses_of_join : {T : Type 0} → List (T × ℕ × ℕ) → List (T × ℕ)
excesses_of_join js = filter (λ e. nat_lt 0 e.1) (map (λ j. (j.0, j.1 - j.2)) js)

-- each value whose second count is 0, with its first
abbrev pub lacking_of_join : {T : Type 0} → List (T × ℕ × ℕ) → List (T × ℕ)
lacking_of_join js = map (λ j. (j.0, j.1)) (filter (λ j. j.2 == 0) js)
