-- Changes of the rows of a balance.
use Rattle.std.specs.Prelude.{◌≡◌, ◌≢◌, ℕ, ◌+◌, ◌<◌, if◌then◌else◌, List, [], ◌∷◌, ◌++◌, length, map, All, Option, None, Some, String, string_bytes, string_cmp}
use Rattle.std.specs.Cmp.Lexicographic.{slice_cmp}
use Rattle.std.specs.Ordering.{nat_cmp}
use Rattle.std.specs.declared.cmp.Ordering.TheVariants.{Less}
use Rattle.std.specs.Global.{Global}
use Rattle.std.specs.List.Sorted.{IsStrictlySortedBy}
use Rattle.std.specs.Map.{keys_of, lookup}
use Rattle.std.specs.Str.{bytes_eq}
use Rattle.hashbag_ledger_lib.specs.declared.rows.RowChange.{RowChange}
use Rattle.hashbag_ledger_lib.specs.declared.rows.RowChange.TheVariants.{Put, Remove}

-- the articles of a balance are in ascending order of their bytes: each is there at most once
abbrev pub Rises : List (String Global × ℕ) → Type 0
Rises L = IsStrictlySortedBy string_cmp (keys_of L)

-- a text comes before the article of the first of these rows; true without rows
abbrev pub IsBefore : List ℕ → List (String Global × ℕ) → Type 0
IsBefore v [] = Unit {0}
IsBefore v (e ∷ L) = slice_cmp nat_cmp v (string_bytes e.0) ≡ Less

-- the number that a balance has for the article with these bytes, if it has the article
abbrev pub number_in : List ℕ → List (String Global × ℕ) → Option ℕ
number_in v L = lookup (λ article. bytes_eq v (string_bytes article)) L

-- the article of a change
abbrev pub article_of : RowChange → String Global
article_of (Put article n) = article
article_of (Remove article) = article

-- the number that the row of the article has after a change; `None` if no row is left
abbrev pub new_number : RowChange → Option ℕ
new_number (Put article n) = Some n
new_number (Remove article) = None

-- the number of v after these changes in turn, if the number before was `was`
abbrev pub applied : List ℕ → List RowChange → Option ℕ → Option ℕ
applied v [] was = was
applied v (c ∷ cs) was = applied v cs (if bytes_eq v (string_bytes (article_of c)) then new_number c else was)

-- these changes turn the first balance into the second; their articles are in ascending order, and each has another number in the second
-- balance
pub record AreChanges (before after : List (String Global × ℕ)) (cs : List RowChange) : Type 0 where
  pub turns : (v : List ℕ) → applied v cs (number_in v before) ≡ number_in v after
  pub rising : IsStrictlySortedBy string_cmp (map article_of cs)
  pub needed : All (λ c. number_in (string_bytes (article_of c)) before ≢ number_in (string_bytes (article_of c)) after) cs

-- the change, if there is one, as a list
abbrev pub listed_of : Option RowChange → List RowChange
listed_of None = []
listed_of (Some c) = c ∷ []

-- if `before` and `after` are in ascending order: `first` and then any changes from `befores` to `afters` are changes from `before` to `after`
abbrev pub Begins : (before after : List (String Global × ℕ)) (first : List RowChange) (befores afters : List (String Global × ℕ)) → Type 0
Begins before after first befores afters = (cs : List RowChange) → (Rises befores → Rises afters → AreChanges befores afters cs)
    → Rises before → Rises after → AreChanges before after (first ++ cs)

-- `befores` and `afters` together have fewer rows than `before` and `after`, unless `before` and `after` have none
abbrev pub LeavesFewerRows : (before after befores afters : List (String Global × ℕ)) → Type 0
LeavesFewerRows before after befores afters = 0 < length before + length after → length befores + length afters < length before + length after
