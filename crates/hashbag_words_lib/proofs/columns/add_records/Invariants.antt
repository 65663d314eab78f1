use Rattle.std.proofs.Common.{◌≡◌, ◌++◌, ℕ, List, All, length, map, true}
use Rattle.hashbag_csv.specs.Sheets.{KeepsHeader, fits_sheet, left, place}
use Rattle.hashbag_words_lib.specs.Columns.{column_at}
use Rattle.hashbag_words_lib.specs.Counts.{HasTokens, Takes}
use Rattle.hashbag_words_lib.specs.Tokens.{token_of}
use Rattle.hashbag_words_lib.proofs.columns.add_records.Given as goal

-- the fields so far are counted; all records fit if those that are left do
abbrev pub invariant-records : goal.invariant-records
invariant-records g l = record {
  D : List (List ℕ);
  all : column_at (place l.column) (left l.fn.sheet) ≡ D ++ column_at (place l.column) (left l.sheet);
  so_far : Takes HasTokens l.fn.bag l.bag (map (token_of l.fold) D);
  same : KeepsHeader l.fn.sheet l.sheet;
  fit : All (λ r. fits_sheet l.fn.sheet r ≡ true) (left l.sheet) → All (λ r. fits_sheet l.fn.sheet r ≡ true) (left l.fn.sheet);
}

-- a record less is left
abbrev pub decreases-records : goal.decreases-records
decreases-records g l = length (left l.sheet)
