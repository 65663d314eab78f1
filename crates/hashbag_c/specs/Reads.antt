-- What a call that reads a bag has written.
use Rattle.std.specs.Prelude.{◌≡◌, ℕ, ◌+◌, ◌<◌, ◌≤◌, ◌-◌, ◌^◌, Bool, List, [], ◌∷◌, length, take, map, flat_map, min, nat_eq, sum_by, Option}
use Rattle.std.specs.Cmp.Lexicographic.{slice_cmp}
use Rattle.std.specs.List.Sorted.{IsStrictlySortedBy}
use Rattle.std.specs.Map.{keys_of}
use Rattle.std.specs.Ordering.{nat_cmp}
use Rattle.std.specs.Str.{bytes_eq}
use Rattle.std.specs.declared.cmp.Ordering.{Ordering}
use Rattle.hashbag_core.specs.Bag.{Bag}
use Rattle.hashbag_core.specs.Walks.{IsSetWalkOf}
use Rattle.hashbag_ops.specs.Order.{IsMostCommon}
use Rattle.hashbag_c.specs.Calls.{BothNumbers, BothTexts, IfNumbers, IfTexts}
use Rattle.hashbag_c.specs.Differences.{IsOuterJoinOf}
use Rattle.hashbag_c.specs.declared.held.Held.{Held}
use Rattle.hashbag_c.specs.declared.state.Keys.{Keys}
use Rattle.hashbag_c.specs.declared.state.State.{State}

-- the length of the shortest of three lists
abbrev pub least_length : {X Y Z : Type 0} → List X → List Y → List Z → ℕ
least_length xs ys zs = min (length xs) (min (length ys) (length zs))

-- the first n entries of a walk over numbers are written: n is the number of entries, or of places in the shorter array if that is less
pub record HasWritten {C : Type 0} (entries : List (ℕ × C)) (n : ℕ) (values : List ℕ) (counts : List C) : Type 0 where
  pub places : n ≡ least_length entries values counts
  pub values_are : take n values ≡ map (λ e. e.0) (take n entries)
  pub counts_are : take n counts ≡ map (λ e. e.1) (take n entries)

-- the first n entries of a walk, for which `IsWalk` holds, are written
pub record HasRead {C : Type 0} (IsWalk : List (ℕ × C) → Type 0) (n : ℕ) (values : List ℕ) (counts : List C) : Type 0 where
  pub walk : List (ℕ × C)
  pub is_walk : IsWalk walk
  pub written : HasWritten walk n values counts

-- the first n items of an outer join of two bags are written: n is the number of items, or of places in the shortest array if that is less
pub record HasReadJoin (first second : Bag ℕ State) (n : ℕ) (values firsts seconds : List ℕ) : Type 0 where
  pub join : List (ℕ × ℕ × ℕ)
  pub outer_join : IsOuterJoinOf nat_eq first second join
  pub places : n ≡ min (length join) (least_length values firsts seconds)
  pub values_are : take n values ≡ map (λ e. e.0) (take n join)
  pub firsts_are : take n firsts ≡ map (λ e. e.1) (take n join)
  pub seconds_are : take n seconds ≡ map (λ e. e.2) (take n join)

-- how many bytes the strings of a walk have in all
abbrev pub size_of : {C : Type 0} → List (List ℕ × C) → ℕ
size_of walk = sum_by (λ e. length e.0) walk

-- where each string of a walk ends, if they lie one after another from a place on
abbrev pub ends_from : {C : Type 0} → ℕ → List (List ℕ × C) → List ℕ
ends_from at [] = []
ends_from at (e ∷ walk) = (at + length e.0) ∷ ends_from (at + length e.0) walk

-- the first n entries of a walk over byte strings are written, the strings one after another. If that isn't all, the next entry has no place
-- (`most`). So all are written if `ends` and `counts` have places for all entries, and `bytes` for all their bytes (`all`)
pub record HasWrittenTexts {C : Type 0} (entries : List (List ℕ × C)) (n : ℕ) (bytes ends : List ℕ) (counts : List C) : Type 0 where
  pub few : n ≤ length entries
  pub bytes_are : take (size_of (take n entries)) bytes ≡ flat_map (λ e. e.0) (take n entries)
  pub ends_are : take n ends ≡ ends_from 0 (take n entries)
  pub counts_are : take n counts ≡ map (λ e. e.1) (take n entries)
  pub most : n < length entries → n < length ends → n < length counts → length bytes < size_of (take (n + 1) entries)
  pub all : length entries ≤ length ends → length entries ≤ length counts → size_of entries ≤ length bytes → n ≡ length entries

-- the first n entries of a walk over byte strings, for which `IsWalk` holds, are written
pub record HasReadTexts {C : Type 0} (IsWalk : List (List ℕ × C) → Type 0) (n : ℕ) (bytes ends : List ℕ) (counts : List C) : Type 0 where
  pub walk : List (List ℕ × C)
  pub is_walk : IsWalk walk
  pub written : HasWrittenTexts walk n bytes ends counts

-- the strings of a join, each with its first count
abbrev pub with_firsts : List (List ℕ × ℕ × ℕ) → List (List ℕ × ℕ)
with_firsts join = map (λ j. (j.0, j.1)) join

-- the first n strings of an outer join of two bags are written as those of a walk, each with both counts
pub record HasReadTextJoin (first second : Bag (List ℕ) Keys) (n : ℕ) (bytes ends firsts seconds : List ℕ) : Type 0 where
  pub join : List (List ℕ × ℕ × ℕ)
  pub outer_join : IsOuterJoinOf bytes_eq first second join
  pub few : n ≤ length join
  pub bytes_are : take (size_of (take n (with_firsts join))) bytes ≡ flat_map (λ e. e.0) (take n (with_firsts join))
  pub ends_are : take n ends ≡ ends_from 0 (take n (with_firsts join))
  pub firsts_are : take n firsts ≡ map (λ j. j.1) (take n join)
  pub seconds_are : take n seconds ≡ map (λ j. j.2) (take n join)
  pub all : length join ≤ length ends → length join ≤ length firsts → length join ≤ length seconds → size_of (with_firsts join) ≤ length bytes → n ≡ length join

-- each distinct value of a bag with its count, in ascending order
abbrev pub IsSortedWalkOf : {T S : Type 0} → (T → T → Bool) → (T → T → Ordering) → Bag T S → List (T × ℕ) → Type 0
IsSortedWalkOf eq cmp bag walk = IsSetWalkOf eq bag walk × IsStrictlySortedBy cmp (keys_of walk)

-- the first n numbers of a bag in ascending order are written
abbrev pub HasSortedNumbers : Bag ℕ State → ℕ → List ℕ → List ℕ → Type 0
HasSortedNumbers bag n values counts = HasRead (IsSortedWalkOf nat_eq nat_cmp bag) n values counts

-- the most common numbers of a bag are written, as many as both lists have places for
abbrev pub HasMostCommonNumbers : Bag ℕ State → ℕ → List ℕ → List ℕ → Type 0
HasMostCommonNumbers bag n values counts = HasRead (IsMostCommon nat_eq nat_cmp (min (length values) (length counts)) bag) n values counts

-- the first n byte strings of a bag in ascending order are written
abbrev pub HasSortedTexts : Bag (List ℕ) Keys → ℕ → List ℕ → List ℕ → List ℕ → Type 0
HasSortedTexts bag n bytes ends counts = HasReadTexts (IsSortedWalkOf bytes_eq (slice_cmp nat_cmp) bag) n bytes ends counts

-- the first n of the k most common byte strings of a bag are written; k is the lesser of the lengths of `ends` and `counts`
abbrev pub HasMostCommonTexts : Bag (List ℕ) Keys → ℕ → List ℕ → List ℕ → List ℕ → Type 0
HasMostCommonTexts bag n bytes ends counts = HasReadTexts (IsMostCommon bytes_eq (slice_cmp nat_cmp) (min (length ends) (length counts)) bag) n bytes ends counts

-- the number of bytes of all distinct strings, or the greatest `usize` if there are more
pub record HasSize (bag : Bag (List ℕ) Keys) (size : ℕ) : Type 0 where
  pub walk : List (List ℕ × ℕ)
  pub set_walk : IsSetWalkOf bytes_eq bag walk
  pub size_is : size ≡ min (size_of walk) (2 ^ 64 - 1)

-- the strings of these pairs come first in `bytes`, one after another
abbrev pub BeginWithStrings : List ℕ → List (List ℕ × ℕ) → Type 0
BeginWithStrings bytes pairs = take (size_of pairs) bytes ≡ flat_map (λ e. e.0) pairs

-- all items of a join are written if `ends`, `firsts` and `seconds` have places for all items, and `bytes` for all their bytes
abbrev pub WritesAllJoinedIfTheyFit : List (List ℕ × ℕ × ℕ) → List ℕ → List ℕ → List ℕ → List ℕ → ℕ → Type 0
WritesAllJoinedIfTheyFit items bytes ends firsts seconds written =
    length items ≤ length ends → length items ≤ length firsts → length items ≤ length seconds → size_of (with_firsts items) ≤ length bytes → written ≡ length items

-- ---- of handles

-- if a handle has a bag of numbers, the first n entries of a walk over it are written
abbrev pub ReadsNumbers : {C : Type 0} → (Bag ℕ State → List (ℕ × C) → Type 0) → Option Held → ℕ → List ℕ → List C → Type 0
ReadsNumbers IsWalk held n values counts = IfNumbers held (λ bag. HasRead (IsWalk bag) n values counts)

-- if both handles have bags of numbers, the first n entries of a join of these are written
abbrev pub ReadsBothNumbers : {C : Type 0} → ((ℕ → ℕ → Bool) → Bag ℕ State → Bag ℕ State → List (ℕ × C) → Type 0) → Option Held → Option Held → ℕ → List ℕ → List C → Type 0
ReadsBothNumbers IsJoin a b n values counts = BothNumbers a b (λ x y. HasRead (IsJoin nat_eq x y) n values counts)

-- if a handle has a bag of byte strings, the first n entries of a walk over it are written
abbrev pub ReadsTexts : {C : Type 0} → (Bag (List ℕ) Keys → List (List ℕ × C) → Type 0) → Option Held → ℕ → List ℕ → List ℕ → List C → Type 0
ReadsTexts IsWalk held n bytes ends counts = IfTexts held (λ bag. HasReadTexts (IsWalk bag) n bytes ends counts)

-- if both handles have bags of byte strings, the first n entries of a join of these are written
abbrev pub ReadsBothTexts : {C : Type 0} → ((List ℕ → List ℕ → Bool) → Bag (List ℕ) Keys → Bag (List ℕ) Keys → List (List ℕ × C) → Type 0)
    → Option Held → Option Held → ℕ → List ℕ → List ℕ → List C → Type 0
ReadsBothTexts IsJoin a b n bytes ends counts = BothTexts a b (λ x y. HasReadTexts (IsJoin bytes_eq x y) n bytes ends counts)

-- if both handles have bags of byte strings, the first n items of their outer join are written
abbrev pub ReadsTextJoin : Option Held → Option Held → ℕ → List ℕ → List ℕ → List ℕ → List ℕ → Type 0
ReadsTextJoin a b n bytes ends firsts seconds = BothTexts a b (λ x y. HasReadTextJoin x y n bytes ends firsts seconds)
