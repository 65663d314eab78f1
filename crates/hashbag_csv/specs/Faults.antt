-- Which error a text has that isn't read as a number.
use Rattle.std.specs.Prelude.{◌≡◌, ℕ, ◌<◌, ◌==◌, ◌&&◌, ◌⊎◌, ◌++◌, ◌∷◌, if◌then◌else◌, Bool, true, false, List, [], length, IsTrue, ⊤, Option, MatchOption}
use Rattle.std.specs.Borrow.{Bor}
use Rattle.std.specs.Char.{is_ascii_digit}
use Rattle.std.specs.String.{string_bytes}
use Rattle.std.specs.Str.Parse.{IsNumeral}
use Rattle.hashbag_csv.specs.Decimals.{IsDecimal, part_of, units, whole_of}
use Rattle.hashbag_csv.specs.declared.fault.Fault.{Fault}
use Rattle.hashbag_csv.specs.declared.fault.Fault.TheVariants.{NoNumber, NotWhole, TooManyDecimals, PastMost}
use Rattle.hashbag_csv.specs.declared.fault.SheetError.{SheetError}
use Rattle.hashbag_csv.specs.declared.fault.SheetError.TheVariants.{Line, Memory}

-- the mark is in the text
unfoldable pub HasMark : ℕ → List ℕ → Type 0
HasMark mark text = text ≡ whole_of mark text ++ mark ∷ part_of mark text

-- digits, the mark, and digits, however many
unfoldable pub HasParts : ℕ → List ℕ → Type 0
HasParts mark text = HasMark mark text × IsNumeral 10 (whole_of mark text) × IsNumeral 10 (part_of mark text)

-- whether a text is digits with single marks between them; `after` is whether a digit precedes the text
abbrev pub is_grouped : ℕ → Bool → List ℕ → Bool
is_grouped mark after [] = after
is_grouped mark after (c ∷ cs) = if is_ascii_digit c then is_grouped mark true cs else (if after && (c == mark) then is_grouped mark false cs else false)

-- the text is digits, `mark` and decimals; single marks `other` may be between the digits before `mark`
unfoldable pub HasGroups : ℕ → ℕ → List ℕ → Type 0
HasGroups mark other text = HasMark mark text × IsTrue (is_grouped other false (whole_of mark text)) × IsNumeral 10 (part_of mark text)

-- a number with decimals after a point (46), perhaps with commas (44) between groups; or with the two marks swapped
unfoldable pub IsFraction : List ℕ → Type 0
IsFraction text = HasGroups 46 44 text ⊎ HasGroups 44 46 text

-- what is wrong with a text that isn't a number of at most `most` units, with up to D decimals behind this mark
abbrev pub IsFaultOfDigits : ℕ → ℕ → ℕ → List ℕ → Fault → Type 0
IsFaultOfDigits mark D most text (NoNumber field) = ¬ (IsNumeral 10 text) × (D ≡ 0 → ¬ (IsFraction text)) × (0 < D → ¬ (HasParts mark text))
IsFaultOfDigits mark D most text (NotWhole field) = (D ≡ 0) × IsFraction text
IsFaultOfDigits mark D most text (TooManyDecimals decimals field) = (decimals ≡ D) × (0 < D) × HasParts mark text × (D < length (part_of mark text))
IsFaultOfDigits mark D most text (PastMost greatest field) = IsDecimal mark D text × (most < units mark D text) × IsDecimal mark D (string_bytes greatest) × (units mark D (string_bytes greatest) ≡ most)
IsFaultOfDigits mark D most text _ = ⊥

-- the error, in this line, of a text that isn't such a number; or `Memory`
abbrev pub IsErrorOfDigits : ℕ → ℕ → ℕ → ℕ → List ℕ → SheetError → Type 0
IsErrorOfDigits mark D most line text (Line at fault) = (at ≡ line) × IsFaultOfDigits mark D most text fault
IsErrorOfDigits mark D most line text Memory = ⊤

-- `cut` has the text before the first mark and the text after it; `None` if the text has no mark
abbrev pub IsCutAtMark : ℕ → List ℕ → Option (Bor (List ℕ) × Bor (List ℕ)) → Type 0
IsCutAtMark mark text cut = MatchOption cut (¬ (HasMark mark text)) (λ x. HasMark mark text × (x.0.now ≡ whole_of mark text) × (x.1.now ≡ part_of mark text))

-- `decimals` is the number of digits after the mark, if the text is digits, the mark and digits; `None` for any other text
abbrev pub IsNumberOfDecimals : ℕ → List ℕ → Option ℕ → Type 0
IsNumberOfDecimals mark text decimals = MatchOption decimals (¬ (HasParts mark text)) (λ n. HasParts mark text × (n ≡ length (part_of mark text)))
