-- Tallies of lines whose articles are given as the bytes of their fields.
use Rattle.std.specs.Prelude.{◌≡◌, ℕ, Bool, List, ◌++◌, map}
use Rattle.hashbag_core.specs.Bag.{Bag}
use Rattle.hashbag_csv.specs.LineColumns.{line_by, line_bytes}
use Rattle.hashbag_csv.specs.Readers.{Record}
use Rattle.hashbag_csv.specs.Sheets.{left}
use Rattle.hashbag_csv.specs.declared.lines.LineColumns.{LineColumns}
use Rattle.hashbag_csv.specs.declared.scale.Scale.{Scale}
use Rattle.hashbag_csv.specs.declared.sheet.Sheet.{Sheet}
use Rattle.hashbag_match_lib.specs.Asks.{Lines}
use Rattle.hashbag_match_lib.specs.Matched.{HaveSameQuantities, IsStatusOf}
use Rattle.hashbag_match_lib.specs.Tallies.{IsTallyOf}
use Rattle.hashbag_match_lib.specs.declared.tally.Tally.{Tally}

-- the lines of the records that a sheet hasn't read, by these columns
abbrev pub lines_left : Scale → LineColumns → Sheet → Lines
lines_left scale columns sheet = map (line_by scale columns) (left sheet)

module _ {A : Type 0} (eq : A → A → Bool) where
  -- the bags are the tally of these lines, which are given as bytes
  abbrev pub IsTallyOfLines : {S : Type 0} → (A → Record) → List (Record × ℕ) → Bag A S → Bag A S → Type 0
  IsTallyOfLines fields lines bag zeros = (L : List (A × ℕ)) × (map (line_bytes fields) L ≡ lines) × IsTallyOf eq L bag zeros

  -- a tally is of these lines, which are given as bytes
  abbrev pub TalliesLines : {S H : Type 0} → (A → Record) → List (Record × ℕ) → Tally A S H → Type 0
  TalliesLines fields lines tally = IsTallyOfLines fields lines tally.counts tally.zeros

  -- if the old tally is of lines K, the new tally is of K and then `lines`
  abbrev pub TalliesMore : {S H : Type 0} → (A → Record) → List (Record × ℕ) → Tally A S H → Tally A S H → Type 0
  TalliesMore fields lines old new =
      (K : List (Record × ℕ)) → IsTallyOfLines fields K old.counts old.zeros → IsTallyOfLines fields (K ++ lines) new.counts new.zeros

  -- the status is 0 exactly if the lines of two tallies, as bytes, name the same quantity of each article; else it is 1
  abbrev pub IsStatusOfLines : {S H : Type 0} → (A → Record) → Tally A S H → Tally A S H → ℕ → Type 0
  IsStatusOfLines fields ordered delivered status =
      (L M : Lines) → IsTallyOfLines fields L ordered.counts ordered.zeros → IsTallyOfLines fields M delivered.counts delivered.zeros → IsStatusOf (HaveSameQuantities L M) status
