-- Which texts are dates, by computing.
use Rattle.std.specs.Prelude.{◌≡◌, true, false, codes, refl}
use Rattle.hashbag_ledger_lib.specs.Dates.{is_date}

a_day : is_date (codes "2026-11-29") ≡ true
a_day = refl

leap_day : is_date (codes "2024-02-29") ≡ true
leap_day = refl

leap_day_of_2000 : is_date (codes "2000-02-29") ≡ true
leap_day_of_2000 = refl

-- 1900 has no leap day
no_leap_day : is_date (codes "1900-02-29") ≡ false
no_leap_day = refl

no_month : is_date (codes "2026-13-01") ≡ false
no_month = refl

no_31st : is_date (codes "2026-04-31") ≡ false
no_31st = refl

no_digits : is_date (codes "2026-1-01") ≡ false
no_digits = refl

a_space : is_date (codes "2026-01-01 ") ≡ false
a_space = refl
