-- Numbers with up to D decimals, in units of 10^-D: if D is 2, `1.50` is 150.
use Rattle.std.specs.Prelude.{◌≡◌, ℕ, ◌+◌, ◌-◌, ◌*◌, ◌/◌, ◌%◌, ◌^◌, ◌≤◌, ◌==◌, ◌++◌, ◌∷◌, ◌⊎◌, List, length, replicate, decimal, if◌then◌else◌, Option, MatchOption}
use Rattle.std.specs.List.{before_first, after_first}
use Rattle.std.specs.Str.Parse.{IsNumeral, digits_value}

-- the most decimals that a scale has
abbrev pub most_decimals : ℕ
most_decimals = 9

-- `whole` is digits, and `part` is 1 to D digits
abbrev pub ArePartsOf : ℕ → List ℕ → List ℕ → Type 0
ArePartsOf D whole part = IsNumeral 10 whole × IsNumeral 10 part × (length part ≤ D)

-- the number of units of 10^-D of a whole part and the decimals after it
abbrev pub units_of : ℕ → List ℕ → List ℕ → ℕ
units_of D whole part = digits_value 10 whole * 10 ^ D + digits_value 10 part * 10 ^ (D - length part)

-- the text before the first mark: all of it if there is no mark
abbrev pub whole_of : ℕ → List ℕ → List ℕ
whole_of mark text = before_first (λ c. c == mark) text

-- the text after the first mark: nothing if there is no mark
abbrev pub part_of : ℕ → List ℕ → List ℕ
part_of mark text = after_first (λ c. c == mark) text

-- a text is digits; or digits, the mark, and 1 to D digits
abbrev pub IsDecimal : ℕ → ℕ → List ℕ → Type 0
IsDecimal mark D text = IsNumeral 10 text ⊎ ((text ≡ whole_of mark text ++ mark ∷ part_of mark text) × ArePartsOf D (whole_of mark text) (part_of mark text))

-- the number of units of 10^-D of a text: the whole part is before the first mark, and the decimals are after it
abbrev pub units : ℕ → ℕ → List ℕ → ℕ
units mark D text = units_of D (whole_of mark text) (part_of mark text)

-- `read` is `Some value` if P holds and `value` fits in 64 bits, and `None` otherwise
abbrev pub IsSomeIfFits : Option ℕ → Type 0 → ℕ → Type 0
IsSomeIfFits read P value = MatchOption read (¬ (P × (value ≤ 2 ^ 64 - 1))) (λ n. P × (value ≡ n))

-- the digits of a number, with zeros before them up to this width
abbrev pub padded_digits : ℕ → ℕ → List ℕ
padded_digits width n = replicate (width - length (decimal n)) 48 ++ decimal n

-- the text of n units of 10^-D: the digits of the whole part, and, if D isn't 0, the mark and D digits
abbrev pub decimal_text : ℕ → ℕ → ℕ → List ℕ
decimal_text mark D n = if D == 0 then decimal n else decimal (n / 10 ^ D) ++ mark ∷ padded_digits D (n % 10 ^ D)
