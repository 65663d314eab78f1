-- Lists that are added up as they are read, and the rows that follow from them.
use Rattle.std.specs.Prelude.{◌≡◌, ℕ, ◌+◌, ◌≤◌, ◌==◌, ◌&&◌, ◌↔◌, if◌then◌else◌, Bool, List, [], ◌∷◌, ◌++◌, filter, length, map, sum_by, IsTrue}
use Rattle.std.specs.Borrow.{Bor}
use Rattle.std.specs.Global.{Vec}
use Rattle.std.specs.declared.cmp.Ordering.{Ordering}
use Rattle.hashbag_core.specs.Bag.{Bag}
use Rattle.hashbag_core.specs.Joins.{IsOuterJoin}
use Rattle.hashbag_core.specs.Occurrences.{count, greatest_total}
use Rattle.hashbag_csv.specs.Quantities.{number_sum, quantity, times}
use Rattle.hashbag_match_lib.specs.Matching.{AreRows, lent_rows}
use Rattle.hashbag_match_lib.specs.declared.matching.Row.{Row}
use Rattle.hashbag_match_lib.specs.declared.tally.Tally.{Tally}

module _ {T : Type 0} (eq : T → T → Bool) where
  -- how many entries of a list name v with the number 0
  abbrev pub zeros_of : T → List (T × ℕ) → ℕ
  zeros_of v L = sum_by (λ e. if eq v e.0 then (if e.1 == 0 then 1 else 0) else 0) L

  -- `bag` has each article as often as the sum of its numbers in the list. `at_zero` has the articles that the list names with the number 0. The
  -- limit of `bag` is `usize::MAX`, and its length is the sum of the numbers
  pub record IsTallyOf {S : Type 0} (L : List (T × ℕ)) (bag at_zero : Bag T S) : Type 0 where
    pub counts : (v : T) → count eq v bag.items ≡ quantity eq v L
    pub zeros : (v : T) → count eq v at_zero.items ≡ zeros_of v L
    pub len : length bag.items ≡ number_sum L
    pub fits : number_sum L ≤ greatest_total
    pub limit : bag.most ≡ greatest_total

  -- neither list has v
  abbrev pub in_neither : List T → List T → T → Bool
  in_neither X Y v = (count eq v X == 0) && (count eq v Y == 0)

module _ {T : Type 0} where
  -- the row of an article with both counts
  abbrev pub row_of_join : T × ℕ × ℕ → Row T
  row_of_join j = record { article = j.0; ordered = j.1; delivered = j.2 }

  -- the total that a tally has after this number is added
  abbrev pub total_with : {S H : Type 0} → ℕ → Tally T S H → ℕ
  total_with number tally = length tally.counts.items + number

  -- the row of an article with the number 0 for both counts
  abbrev pub zero_row : T × ℕ × ℕ → Row T
  zero_row j = record { article = j.0; ordered = 0; delivered = 0 }

module _ {T : Type 0} (eq : T → T → Bool) where
  -- the rows are the rows of an outer join of two bags, in any order
  abbrev pub AreRowsOfJoin : List T → List T → List (Row T) → Type 0
  AreRowsOfJoin X Y rows = (J : List (T × ℕ × ℕ)) × IsOuterJoin eq X Y J × (rows ≡ map row_of_join J)

  module _ {S H : Type 0} where
    -- a row of two zeros is appended for each article that the lines of two tallies name only with the number 0
    abbrev pub AppendsZeroRows : Tally T S H → Tally T S H → Vec (Row (Bor T)) → Vec (Row (Bor T)) → Type 0
    AppendsZeroRows ordered delivered old new =
        (J : List (T × ℕ × ℕ)) × IsOuterJoin eq ordered.zeros.items delivered.zeros.items J
        × (lent_rows new.items ≡ lent_rows old.items ++ map zero_row (filter (λ j. in_neither eq ordered.counts.items delivered.counts.items j.0) J))

    -- each article that the lines of two tallies name has one row, with the article's quantity in each tally
    abbrev pub AreRowsOfTallies : (T → T → Ordering) → Tally T S H → Tally T S H → Vec (Row (Bor T)) → Type 0
    AreRowsOfTallies cmp ordered delivered rows =
        (L M : List (T × ℕ)) → IsTallyOf eq L ordered.counts ordered.zeros → IsTallyOf eq M delivered.counts delivered.zeros
        → AreRows eq cmp (λ v. times eq v L + times eq v M) (λ v. quantity eq v L) (λ v. quantity eq v M) (lent_rows rows.items)

    -- `agree` says whether the lines of both tallies add up to the same number of each article
    abbrev pub SaysWhetherTalliesAgree : Tally T S H → Tally T S H → Bool → Type 0
    SaysWhetherTalliesAgree ordered delivered agree =
        (L M : List (T × ℕ)) → IsTallyOf eq L ordered.counts ordered.zeros → IsTallyOf eq M delivered.counts delivered.zeros
        → (IsTrue agree ↔ ((v : T) → quantity eq v L ≡ quantity eq v M))

    -- if the old tally is of lines L, the new tally is of L
    abbrev pub TalliesSame : Tally T S H → Tally T S H → Type 0
    TalliesSame old new = (L : List (T × ℕ)) → IsTallyOf eq L old.counts old.zeros → IsTallyOf eq L new.counts new.zeros

    -- if the old tally is of lines L, the new tally is of L and then this line
    abbrev pub TalliesOneMore : Tally T S H → Tally T S H → T × ℕ → Type 0
    TalliesOneMore old new line = (L : List (T × ℕ)) → IsTallyOf eq L old.counts old.zeros → IsTallyOf eq (L ++ line ∷ []) new.counts new.zeros
