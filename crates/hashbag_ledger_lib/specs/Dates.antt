-- Dates as texts, `2026-02-28`: four digits of the year, two of the month and two of the day, in the proleptic Gregorian calendar.
use Rattle.std.specs.Prelude.{ℕ, ◌+◌, ◌*◌, ◌-◌, ◌%◌, ◌==◌, ◌&&◌, ◌||◌, not, nat_le, if◌then◌else◌, Bool, List, length, get_or}
use Rattle.std.specs.Char.{is_ascii_digit}

-- a year has a 29 February if 4 divides it; but if 100 divides it, only if 400 does
abbrev pub is_leap : ℕ → Bool
is_leap y = (y % 4 == 0) && (not (y % 100 == 0) || (y % 400 == 0))

-- how many days the second month has
abbrev pub days_in_february : ℕ → ℕ
days_in_february y = if is_leap y then 29 else 28

-- how many days a month of a year has
abbrev pub days_in : ℕ → ℕ → ℕ
days_in y m = if m == 2 then days_in_february y else (if (m == 4) || ((m == 6) || ((m == 9) || (m == 11))) then 30 else 31)

-- the digit at this place, as a number
abbrev pub digit_at : List ℕ → ℕ → ℕ
digit_at t i = get_or t i 48 - 48

-- the two digits at these places, as one number
abbrev pub pair_at : List ℕ → ℕ → ℕ → ℕ
pair_at t i j = digit_at t i * 10 + digit_at t j

-- digits are at both places
abbrev pub is_pair_at : List ℕ → ℕ → ℕ → Bool
is_pair_at t i j = is_ascii_digit (get_or t i 0) && is_ascii_digit (get_or t j 0)

-- the text has the form of a date
abbrev pub has_form : List ℕ → Bool
has_form t = (length t == 10) && ((is_pair_at t 0 1 && is_pair_at t 2 3) && ((is_pair_at t 5 6 && is_pair_at t 8 9) && ((get_or t 4 0 == 45) && (get_or t 7 0 == 45))))

-- the year, the month and the day of a text of that form
abbrev pub year_in : List ℕ → ℕ
year_in t = pair_at t 0 1 * 100 + pair_at t 2 3

abbrev pub month_in : List ℕ → ℕ
month_in t = pair_at t 5 6

abbrev pub day_in : List ℕ → ℕ
day_in t = pair_at t 8 9

-- a year has this month, and the month this day
abbrev pub is_day_of : ℕ → ℕ → ℕ → Bool
is_day_of y m d = (nat_le 1 m && nat_le m 12) && (nat_le 1 d && nat_le d (days_in y m))

-- the text is a date
abbrev pub is_date : List ℕ → Bool
is_date t = has_form t && is_day_of (year_in t) (month_in t) (day_in t)
