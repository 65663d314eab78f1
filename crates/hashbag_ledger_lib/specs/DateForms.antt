-- The forms of dates in files, and the texts of ISO that their dates are: 28.02.2026 is 2026-02-28.
use Rattle.std.specs.Prelude.{ℕ, ◌==◌, List, [], ◌∷◌, ◌++◌, codes, bytes_eq}
use Rattle.std.specs.List.{after_first, before_first}
use Rattle.std.specs.Option.{unwrap_or}
use Rattle.hashbag_text.specs.Names.{named_in}
use Rattle.hashbag_ledger_lib.specs.declared.date_forms.DateForm.{DateForm}
use Rattle.hashbag_ledger_lib.specs.declared.date_forms.DateForm.TheVariants.{Iso, DayDots, DaySlashes, MonthSlashes}

-- the names of forms; any other name means the form of ISO
abbrev pub form_named : List ℕ → DateForm
form_named name = unwrap_or (named_in ((codes "DD.MM.YYYY", DayDots) ∷ (codes "DD/MM/YYYY", DaySlashes) ∷ (codes "MM/DD/YYYY", MonthSlashes) ∷ []) (bytes_eq name)) Iso

-- a year, a month and a day with hyphens between them
abbrev pub joined : List ℕ → List ℕ → List ℕ → List ℕ
joined year month day = year ++ 45 ∷ month ++ 45 ∷ day

-- what is before the first mark of a text, what is behind it up to the next mark, and what is behind that
abbrev pub first_part : ℕ → List ℕ → List ℕ
first_part mark t = before_first (λ b. b == mark) t

abbrev pub second_part : ℕ → List ℕ → List ℕ
second_part mark t = before_first (λ b. b == mark) (after_first (λ b. b == mark) t)

abbrev pub last_part : ℕ → List ℕ → List ℕ
last_part mark t = after_first (λ b. b == mark) (after_first (λ b. b == mark) t)

-- what a field in a form is as ISO writes it. The field is a date in that form exactly if this is a date, since a date has hyphens in two places alone
abbrev pub iso_of : DateForm → List ℕ → List ℕ
iso_of Iso t = t
iso_of DayDots t = joined (last_part 46 t) (second_part 46 t) (first_part 46 t)
iso_of DaySlashes t = joined (last_part 47 t) (second_part 47 t) (first_part 47 t)
iso_of MonthSlashes t = joined (last_part 47 t) (first_part 47 t) (second_part 47 t)
