-- Which dates fields are in a form, by computing.
use Rattle.std.specs.Prelude.{◌≡◌, false, codes, refl}
use Rattle.hashbag_ledger_lib.specs.DateForms.{form_named, iso_of}
use Rattle.hashbag_ledger_lib.specs.Dates.{is_date}
use Rattle.hashbag_ledger_lib.specs.declared.date_forms.DateForm.TheVariants.{Iso, DayDots, DaySlashes, MonthSlashes}

a_day_with_dots : iso_of DayDots (codes "28.02.2026") ≡ codes "2026-02-28"
a_day_with_dots = refl

a_day_with_slashes : iso_of DaySlashes (codes "05/06/2026") ≡ codes "2026-06-05"
a_day_with_slashes = refl

a_month_with_slashes : iso_of MonthSlashes (codes "05/06/2026") ≡ codes "2026-05-06"
a_month_with_slashes = refl

no_month : is_date (iso_of MonthSlashes (codes "28/02/2026")) ≡ false
no_month = refl

other_marks : is_date (iso_of DayDots (codes "28/02/2026")) ≡ false
other_marks = refl

three_marks : is_date (iso_of DayDots (codes "28.02.2026.")) ≡ false
three_marks = refl

no_zeros : is_date (iso_of DayDots (codes "8.2.2026")) ≡ false
no_zeros = refl

iso_with_dots_asked : is_date (iso_of DayDots (codes "2026-02-28")) ≡ false
iso_with_dots_asked = refl

hyphens_in_the_year : is_date (iso_of DayDots (codes "8.2.2026-0")) ≡ false
hyphens_in_the_year = refl

another_name : form_named (codes "YYYY-MM-DD") ≡ Iso
another_name = refl
