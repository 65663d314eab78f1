-- What was ordered next to what was delivered.
use Rattle.std.specs.Prelude.{◌≡◌, ℕ, ◌-◌, ◌<◌, ◌==◌, not, Bool, true, List, length, map, sum_by, count_by, All}
use Rattle.std.specs.Borrow.{Bor}
use Rattle.std.specs.List.{Contains}
use Rattle.std.specs.List.Sorted.{IsStrictlySortedBy}
use Rattle.std.specs.declared.cmp.Ordering.{Ordering}
use Rattle.hashbag_match_lib.specs.declared.matching.Row.{Row}
use Rattle.hashbag_match_lib.specs.declared.totals.Totals.{Totals}

module _ {T : Type 0} where
  -- how many were ordered that weren't delivered
  abbrev pub missing_of : Row T → ℕ
  missing_of row = row.ordered - row.delivered

  -- how many were delivered that weren't ordered
  abbrev pub surplus_of : Row T → ℕ
  surplus_of row = row.delivered - row.ordered

  -- as many were ordered as delivered
  abbrev pub agrees : Row T → Bool
  agrees row = row.ordered == row.delivered

  -- the sums of all rows
  abbrev pub totals_in : List (Row T) → Totals
  totals_in rows = record {
    articles = length rows;
    differing = count_by (λ row. not (agrees row)) rows;
    missing = sum_by missing_of rows;
    surplus = sum_by surplus_of rows;
  }

  -- `totals` is `totals_in rows`, field by field
  pub record AreTotals (rows : List (Row T)) (totals : Totals) : Type 0 where
    pub articles : totals.articles ≡ length rows
    pub differing : totals.differing ≡ count_by (λ row. not (agrees row)) rows
    pub missing : totals.missing ≡ sum_by missing_of rows
    pub surplus : totals.surplus ≡ sum_by surplus_of rows

-- rows whose articles are lent, as rows of the articles themselves
abbrev pub lent_rows : {T : Type 0} → List (Row (Bor T)) → List (Row T)
lent_rows rows = map (λ row. record { article = row.article.now; ordered = row.ordered; delivered = row.delivered }) rows

-- each article v for which `named v` isn't 0 has one row, with the numbers `ordered v` and `delivered v`; articles are in ascending order
pub record AreRows {T : Type 0} (eq : T → T → Bool) (cmp : T → T → Ordering) (named ordered delivered : T → ℕ) (rows : List (Row T)) : Type 0 where
  pub rising : IsStrictlySortedBy cmp (map (λ row. row.article) rows)
  pub counts : All (λ row. (row.ordered ≡ ordered row.article) × (row.delivered ≡ delivered row.article) × (0 < named row.article)) rows
  pub each : (v : T) → 0 < named v → (row : Row T) × Contains rows row × (eq v row.article ≡ true)
