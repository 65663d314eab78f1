-- The balance of a day: the sum of the movements whose day is this day or before, in whatever order they were entered.
use Rattle.std.specs.Prelude.{◌≡◌, ℕ, ◌+◌, ◌-◌, ◌<◌, nat_lt, if◌then◌else◌, Bool, true, false, List, [], ◌∷◌, map, sum_by, All, bytes_eq, String}
use Rattle.std.specs.Borrow.{Bor}
use Rattle.std.specs.Cmp.Lexicographic.{slice_cmp}
use Rattle.std.specs.Global.{Global}
use Rattle.std.specs.List.{Contains}
use Rattle.std.specs.List.Sorted.{IsStrictlySortedBy}
use Rattle.std.specs.Map.{keys_of}
use Rattle.std.specs.Ordering.{nat_cmp}
use Rattle.std.specs.String.{string_bytes}
use Rattle.std.specs.declared.cmp.Ordering.{Ordering}
use Rattle.std.specs.declared.cmp.Ordering.TheVariants.{Less, Equal, Greater}
use Rattle.hashbag_core.specs.Occurrences.{count}
use Rattle.hashbag_ledger_lib.specs.Ledger.{coming, going}
use Rattle.hashbag_ledger_lib.specs.Numbers.{size}
use Rattle.hashbag_ledger_lib.specs.declared.dated.Part.{Part}
use Rattle.hashbag_ledger_lib.specs.declared.dated.Part.TheVariants.{In as Came, Out as Went, Both}
use Rattle.hashbag_ledger_lib.specs.declared.movements.Change.{Change}
use Rattle.hashbag_ledger_lib.specs.declared.movements.Change.TheVariants.{In, Out}
use Rattle.hashbag_ledger_lib.specs.declared.movements.Entry.{Entry}
use Rattle.hashbag_ledger_lib.specs.declared.movements.Movement.{Movement}
use Rattle.hashbag_ledger_lib.specs.declared.movements.Outcome.{Outcome}
use Rattle.hashbag_ledger_lib.specs.declared.movements.Outcome.TheVariants.{Entered, Refused}

-- the order isn't `Greater`
abbrev pub is_up_to : Ordering → Bool
is_up_to Less = true
is_up_to Equal = true
is_up_to Greater = false

-- a movement counts on a date: it was entered, and its day is that date or before. Dates are in the order of their texts
abbrev pub counts_by : List ℕ → Outcome → List ℕ → Bool
counts_by date (Entered n) day = is_up_to (slice_cmp nat_cmp day date)
counts_by date (Refused n) day = false

-- an entry, and its day
abbrev pub Dated : Type 0
Dated = Entry (String Global) × String Global

-- whether an entry counts on a date
abbrev pub counts_at : List ℕ → Dated → Bool
counts_at date e = counts_by date e.0.outcome (string_bytes e.1)

-- the movements of the entries that count on a date
abbrev pub counting_by : List ℕ → List Dated → List (Movement (String Global))
counting_by date [] = []
counting_by date (e ∷ es) = if counts_at date e then e.0.movement ∷ counting_by date es else counting_by date es

-- how many of v these movements bring in, and take out
abbrev pub came_of : List ℕ → List (Movement (String Global)) → ℕ
came_of v ms = sum_by (λ m. if bytes_eq v (string_bytes m.article) then coming m.change else 0) ms

abbrev pub went_of : List ℕ → List (Movement (String Global)) → ℕ
went_of v ms = sum_by (λ m. if bytes_eq v (string_bytes m.article) then going m.change else 0) ms

-- the difference of what came and what went: below 0 it is `Out`
abbrev pub net : ℕ → ℕ → Change
net came went = if nat_lt came went then Out (went - came) else In (came - went)

-- the number of v on a date
abbrev pub balance_at : List ℕ → List Dated → List ℕ → Change
balance_at date es v = net (came_of v (counting_by date es)) (went_of v (counting_by date es))

-- an article of a list, by its bytes, with its number
abbrev pub with_bytes : {N : Type 0} → Bor (List ℕ) × N → List ℕ × N
with_bytes e = (e.0.now, e.1)

-- the same of all articles of a list
abbrev pub byte_rows : {N : Type 0} → List (Bor (List ℕ) × N) → List (List ℕ × N)
byte_rows list = map with_bytes list

-- the sum of the numbers of the rows of v
abbrev pub named_sum : List ℕ → List (List ℕ × ℕ) → ℕ
named_sum v rows = sum_by (λ r. if bytes_eq v r.0 then r.1 else 0) rows

-- how often an article is in the list of a bag
abbrev pub count_of : Bor (List ℕ) → List (Bor (List ℕ)) → ℕ
count_of v X = count (λ x y. bytes_eq x.now y.now) v X

-- the count of an article among the items is the sum of the numbers in the rows of the article
abbrev pub HasSumsOf : List (Bor (List ℕ) × ℕ) → List (Bor (List ℕ)) → Type 0
HasSumsOf rows items = (v : Bor (List ℕ)) → count_of v items ≡ named_sum v.now (byte_rows rows)

-- the number of a row is the difference of what came and what went
abbrev pub IsNetOf : (came went : List (Bor (List ℕ))) → Bor (List ℕ) × Change → Type 0
IsNetOf came went r = r.1 ≡ net (count_of r.0 came) (count_of r.0 went)

-- how much a change adds to the sum of what came, of what went, or of both: the part says which
abbrev pub amount : Part → Change → ℕ
amount Came change = coming change
amount Went change = going change
amount Both change = size change

-- the article of a movement, by its bytes, with how much its change adds to the sum of a part
abbrev pub moved : Part → Movement (String Global) → List ℕ × ℕ
moved part m = (string_bytes m.article, amount part m.change)

-- the row that an entry adds, if the entry counts on this date; else no row
abbrev pub moved_at : Part → List ℕ → Dated → List (List ℕ × ℕ)
moved_at part date e = map (moved part) (counting_by date (e ∷ []))

-- each article that moved has one row, with its number on that date; the rows are in ascending order of articles
pub record IsBalanceAt (date : List ℕ) (es : List Dated) (rows : List (Bor (List ℕ) × Change)) : Type 0 where
  pub numbers : All (λ r. r.1 ≡ balance_at date es r.0.now) rows
  pub rising : IsStrictlySortedBy (λ a b. slice_cmp nat_cmp a.now b.now) (keys_of rows)
  pub each : (v : List ℕ) → 0 < came_of v (counting_by date es) + went_of v (counting_by date es) → (k : Bor (List ℕ)) × Contains (keys_of rows) k × (bytes_eq v k.now ≡ true)
