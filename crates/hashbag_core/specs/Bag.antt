-- What contracts see of a `HashBag`.
use Rattle.std.specs.Prelude.{◌≡◌, ◌≢◌, ℕ, ◌+◌, ◌-◌, ◌<◌, ◌≤◌, Bool, List, length, min, replicate, flat_map, Option, option_map, Result, MatchOption, MatchResult}
use denote.Ref.{Bor}
use Rattle.std.specs.List.Sorted.{IsPermutation}
use Rattle.hashbag_table.specs.Entries.{IsCounted}
use Rattle.hashbag_table.specs.Tables.{Tables}
use Rattle.hashbag_core.specs.Occurrences.{greatest_total, count, count_named, counted_named, stored_named, distinct_count, IsBag}

-- what clauses see of a bag: the list of its occurrences, whose order means nothing; the state that hashes its values; the two tables
-- of slots that hold them; and its limit, the greatest total that it may have
pub record Bag (T S : Type 0) : Type 0 where
  pub items : List T
  pub hasher : S
  pub tables : Tables T
  pub most : ℕ

-- the bag means the list X: its occurrences are a rearrangement of X, instances included
abbrev pub Means : {T S : Type 0} → Bag T S → List T → Type 0
Means bag X = IsPermutation X bag.items

-- the bag with the limit `most`, and otherwise unchanged
abbrev pub limited : {T S : Type 0} → ℕ → Bag T S → Bag T S
limited most bag = record { items = bag.items; hasher = bag.hasher; tables = bag.tables; most = most }

-- `after` means X, has the state and the limit of `before`, and `IsBag` holds of its list
pub record IsBagOf {T S : Type 0} (eq : T → T → Bool) (before : Bag T S) (X : List T) (after : Bag T S) : Type 0 where
  pub means : Means after X
  pub hasher : after.hasher ≡ before.hasher
  pub limit : after.most ≡ before.most
  pub bag : IsBag eq after.most after.items

-- v is in the bag
abbrev pub IsPresent : {T S : Type 0} → (T → T → Bool) → T → Bag T S → Type 0
IsPresent eq v bag = 0 < count eq v bag.items

-- the value that a key names is in the bag
abbrev pub IsNamedIn : {T S : Type 0} → (T → Bool) → Bag T S → Type 0
IsNamedIn names bag = 0 < count_named names bag.items

-- the total of the bag if v had the count n
abbrev pub total_recounted : {T S : Type 0} → (T → T → Bool) → T → ℕ → Bag T S → ℕ
total_recounted eq v n bag = length bag.items - count eq v bag.items + n

-- `after` has n occurrences fewer in all than `before`
abbrev pub IsShorterBy : {T S : Type 0} → ℕ → Bag T S → Bag T S → Type 0
IsShorterBy n before after = length after.items + n ≡ length before.items

-- `take_one` returned r: `after` has one occurrence fewer than `before`, or as many if r is `Err 0`
abbrev pub IsShorterByTaken : {T S X : Type 0} → Result X ℕ → Bag T S → Bag T S → Type 0
IsShorterByTaken r before after = MatchResult r (λ _. IsShorterBy 1 before after) (λ n. IsShorterBy (min n 1) before after)

-- `take_all` returned r: `after` has fewer occurrences than `before` by the count in r, or as many if r is `None`
abbrev pub IsShorterByAll : {T S X : Type 0} → Option (X × ℕ) → Bag T S → Bag T S → Type 0
IsShorterByAll r before after = MatchOption r (length after.items ≡ length before.items) (λ taken. IsShorterBy taken.1 before after)

-- `after` has one distinct value more than `before`
abbrev pub HasOneValueMore : {T S : Type 0} → (T → T → Bool) → Bag T S → Bag T S → Type 0
HasOneValueMore eq before after = distinct_count eq after.items ≡ distinct_count eq before.items + 1

-- `lent` is `found` with a reference in the place of the value: a value and a number, or `None`
abbrev pub Lends : {T : Type 0} → Option (Bor T × ℕ) → Option (T × ℕ) → Type 0
Lends lent found = option_map (λ e. (e.0.now, e.1)) lent ≡ found

-- what is lent is the instance in X that a key names, with the number n
abbrev pub LendsCounted : {T : Type 0} → (T → Bool) → ℕ → List T → Option (Bor T × ℕ) → Type 0
LendsCounted names n X lent = Lends lent (counted_named names n X)

-- what is lent is the instance in X that a key names, with its count, which isn't 1
abbrev pub LendsNotOne : {T : Type 0} → (T → Bool) → List T → Option (Bor T × ℕ) → Type 0
LendsNotOne names X lent = Lends lent (stored_named names X) × (count_named names X ≢ 1)

-- the occurrences of a map of counts: each entry's instance as often as its count
abbrev pub occurrences : {T : Type 0} → List (T × ℕ) → List T
occurrences es = flat_map (λ e. replicate e.1 e.0) es

-- the invariant of every bag. Its total is the sum of its counts, and is at most its limit. The limit fits a `usize`. Its entries are a map
-- of counts
pub record IsTallied {T : Type 0} (eq : T → T → Bool) (es : List (T × ℕ)) (total most : ℕ) : Type 0 where
  pub sum : total ≡ length (occurrences es)
  pub fits : total ≤ most
  pub limit : most ≤ greatest_total
  pub counted : IsCounted eq es
