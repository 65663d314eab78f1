-- Shares of a total, in percent.
use Rattle.std.specs.Prelude.{ℕ, ◌+◌, ◌*◌, ◌/◌, ◌%◌, List, [], ◌∷◌, ◌++◌, decimal}

-- n / d, rounded to the nearest number, halves up
abbrev pub rounded : ℕ → ℕ → ℕ
rounded n d = (2 * n + d) / (2 * d)

-- how many hundredths of a percent of the total a count is: of 3, the count 1 is 3333
abbrev pub hundredths_of : ℕ → ℕ → ℕ
hundredths_of total count = rounded (10000 * count) total

-- hundredths as they are written: 3333 is `33.33`
abbrev pub two_decimals : ℕ → List ℕ
two_decimals n = decimal (n / 100) ++ 46 ∷ (48 + n / 10 % 10) ∷ (48 + n % 10) ∷ []
