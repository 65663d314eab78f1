-- The dates and notes of records, by computing.
use Rattle.std.specs.Prelude.{◌≡◌, ℕ, List, [], ◌∷◌, None, Some, codes, refl}
use Rattle.hashbag_csv.specs.Readers.{Record}
use Rattle.hashbag_ledger_lib.specs.Extras.{extras_under}
use Rattle.hashbag_ledger_lib.specs.declared.date_forms.DateForm.TheVariants.{Iso, DayDots}
use Rattle.hashbag_ledger_lib.specs.declared.extras.ExtraColumns.{ExtraColumns}

abbrev dates_alone : ExtraColumns (List ℕ)
dates_alone = record { date = Some (codes "on"); note = None }

abbrev row : List ℕ → List ℕ → Record
row a b = a ∷ b ∷ []

second_column : extras_under Iso dates_alone (row (codes "a") (codes "on") ∷ row (codes "nut") (codes "2026-01-31") ∷ []) ≡ (Some (codes "2026-01-31"), None) ∷ []
second_column = refl

-- a date is read in its form
day_first : extras_under DayDots dates_alone (row (codes "a") (codes "on") ∷ row (codes "nut") (codes "31.01.2026") ∷ []) ≡ (Some (codes "2026-01-31"), None) ∷ []
day_first = refl
