-- What a database keeps of a balance and of refusals: the bytes of texts, and numbers.
use Rattle.std.specs.Prelude.{◌≡◌, ◌≢◌, ℕ, ◌<◌, min, List, map, Option, None, Some, slice_get, String, string_bytes}
use Rattle.std.specs.Borrow.{Bor}
use Rattle.std.specs.Cmp.Lexicographic.{slice_cmp}
use Rattle.std.specs.Option.{option_copied, option_map}
use Rattle.std.specs.Ordering.{nat_cmp}
use Rattle.std.specs.declared.cmp.Ordering.{Ordering}
use Rattle.std.specs.declared.cmp.Ordering.TheVariants.{Less, Equal, Greater}
use Rattle.std.specs.Global.{Global}
use Rattle.hashbag_ledger_lib.specs.declared.movements.Refusal.{Refusal}
use Rattle.hashbag_ledger_lib.specs.declared.verifying.KeptRefusal.{KeptRefusal}
use Rattle.hashbag_ledger_lib.specs.declared.verifying.WrongNumber.{WrongNumber}

-- the row of an article: its bytes, and its number
abbrev pub row : String Global × ℕ → List ℕ × ℕ
row e = (string_bytes e.0, e.1)

-- the rows of the articles of a list
abbrev pub rows_of : List (String Global × ℕ) → List (List ℕ × ℕ)
rows_of L = map row L

-- the row of a refusal; `place.file` is the number of the movement
abbrev pub kept_of : Refusal (String Global) → KeptRefusal
kept_of r = record { movement = r.place.file; there = r.there }

-- two lists have the same elements before this place
abbrev pub AgreeBefore : {X : Type 0} → ℕ → List X → List X → Type 0
AgreeBefore place kept counted = (k : ℕ) → k < place → slice_get kept k ≡ slice_get counted k

-- `wrong` is `wrong_at` of the two elements that the lists have at the first place where they differ
pub record IsFirstDifference {X W : Type 0} (wrong_at : Option X → Option X → W) (kept counted : List X) (wrong : W) : Type 0 where
  pub place : ℕ
  pub before : AgreeBefore place kept counted
  pub differ : slice_get kept place ≢ slice_get counted place
  pub is : wrong ≡ wrong_at (slice_get kept place) (slice_get counted place)

-- the lower article of two rows, with its number in each row; 0 if the row is of the other article
abbrev pub lower_row : (k c : List ℕ × ℕ) → Ordering → List ℕ × ℕ × ℕ
lower_row k c Less = (k.0, k.1, 0)
lower_row k c Equal = (k.0, k.1, c.1)
lower_row k c Greater = (c.0, 0, c.1)

-- the lower article of a kept and a counted row, with its number in each row. The number is 0 if the row is missing, or is of the other article
abbrev pub wrong_row : Option (List ℕ × ℕ) → Option (List ℕ × ℕ) → Option (List ℕ × ℕ × ℕ)
wrong_row (Some k) (Some c) = Some (lower_row k c (slice_cmp nat_cmp k.0 c.0))
wrong_row (Some k) None = Some (k.0, k.1, 0)
wrong_row None (Some c) = Some (c.0, 0, c.1)
wrong_row None None = None

-- the lower movement number of two refusals, or the movement number of the only one
abbrev pub wrong_movement : Option KeptRefusal → Option KeptRefusal → ℕ
wrong_movement (Some k) (Some c) = min k.movement c.movement
wrong_movement (Some k) None = k.movement
wrong_movement None (Some c) = c.movement
wrong_movement None None = 0

-- the lower article of two rows, with its number in each row; 0 if the row is of the other article
abbrev pub lower_row_of : (k c : List ℕ × ℕ) → List ℕ × ℕ × ℕ
lower_row_of k c = lower_row k c (slice_cmp nat_cmp k.0 c.0)

-- the row of an article, if there is one
abbrev pub row_there : Option (Bor (String Global × ℕ)) → Option (List ℕ × ℕ)
row_there e = option_map row (option_copied e)

-- an article with its two numbers
abbrev pub article_with_both : WrongNumber → List ℕ × ℕ × ℕ
article_with_both w = (w.article.now, w.kept, w.counted)

-- the article of the first row that differs in two balances, with its two numbers
abbrev pub IsFirstWrongRow : List (String Global × ℕ) → List (String Global × ℕ) → WrongNumber → Type 0
IsFirstWrongRow kept counted w = IsFirstDifference wrong_row (rows_of kept) (rows_of counted) (Some (article_with_both w))
