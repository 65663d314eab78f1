-- What calls on a whole bag leave, of either kind.
use Rattle.std.specs.Prelude.{◌≡◌, ℕ, ◌+◌, ◌-◌, ◌<◌, ◌≤◌, Bool, List, [], length, nat_eq, Option}
use Rattle.std.specs.Str.{bytes_eq}
use Rattle.hashbag_table.specs.Tables.{ShrinksOrStays}
use Rattle.hashbag_core.specs.Bag.{Bag, IsBagOf}
use Rattle.hashbag_core.specs.Held.{no_slots_after_building, HasFewer, NeedsSlots}
use Rattle.hashbag_core.specs.Keys.{InsertsNamed}
use Rattle.hashbag_core.specs.Occurrences.{count_named, count, distinct_count, recount, SameCounts}
use Rattle.hashbag_ops.specs.Unions.{IsUnion}
use Rattle.hashbag_c.specs.Calls.{named, occurs, HasNumbers, HasTexts, BothNumbers, BothTexts}
use Rattle.hashbag_c.specs.declared.held.Held.{Held}
use Rattle.hashbag_c.specs.declared.state.Keys.{Keys}

-- with n more occurrences, the total would pass the limit of a bag
abbrev pub Overfills : {T S : Type 0} → Bag T S → ℕ → Type 0
Overfills bag n = bag.most < length bag.items + n

-- the total of `bag` with that of `other` would pass the limit of `bag`
abbrev pub OverfilledBy : {T S : Type 0} → Bag T S → Bag T S → Type 0
OverfilledBy bag other = Overfills bag (length other.items)

-- `after` is empty, with the limit and the hash state of `bag`
abbrev pub IsCleared : {T S : Type 0} → Bag T S → Bag T S → Type 0
IsCleared bag after = (after.items ≡ []) × (after.most ≡ bag.most) × (after.hasher ≡ bag.hasher)

module _ {T S : Type 0} (eq : T → T → Bool) where
  -- the values of a list were inserted
  pub record Adds (xs : List T) (bag after : Bag T S) : Type 0 where
    pub counts : (v : T) → count eq v after.items ≡ count eq v bag.items + count eq v xs

  -- the count of a value is n
  abbrev pub SetsCount : T → ℕ → Bag T S → Bag T S → Type 0
  SetsCount value n bag after = IsBagOf eq bag (recount eq value n bag.items) after

  -- the total of `bag` with n of the value, in place of its count, would pass the limit
  abbrev pub RecountOverfills : T → ℕ → Bag T S → Type 0
  RecountOverfills value n bag = bag.most < length bag.items - count eq value bag.items + n

  -- all that a key names is removed
  abbrev pub LosesAll : (T → Bool) → Bag T S → Bag T S → Type 0
  LosesAll names bag after = HasFewer eq names (count_named names bag.items) bag after

  -- `copy` has each value as often as `bag`, under its keys and with its limit, in the least number of slots
  pub record IsCopy (bag copy : Bag T S) : Type 0 where
    pub counts : SameCounts eq bag.items copy.items
    pub len : length copy.items ≡ length bag.items
    pub hasher : copy.hasher ≡ bag.hasher
    pub limit : copy.most ≡ bag.most
    pub least : NeedsSlots eq bag (length copy.tables.newer)

  -- if `bag` has more slots than its values need, `after` has the least number with room for them; else the tables are unchanged. An empty bag has no
  -- slots
  pub record HasShrunk (bag after : Bag T S) : Type 0 where
    pub shrinks : ShrinksOrStays (distinct_count eq bag.items) bag.tables after.tables
    pub freed : bag.items ≡ [] → after.tables ≡ no_slots_after_building bag.tables.built

  -- `after` has n of what the key names: what `before` lacked was inserted, or what it had above n was removed
  pub record SetsNamed (names : T → Bool) (n : ℕ) (before after : Bag T S) : Type 0 where
    pub more : count_named names before.items < n → InsertsNamed eq names (n - count_named names before.items) before after
    pub fewer : n ≤ count_named names before.items → HasFewer eq names (count_named names before.items - n) before after

  -- the count of each value in `after` is f of its counts in x and in y. The limit and the hash state are those of x
  pub record Combines (f : ℕ → ℕ → ℕ) (x y after : Bag T S) : Type 0 where
    pub counts : (v : T) → count eq v after.items ≡ f (count eq v x.items) (count eq v y.items)
    pub limit : after.most ≡ x.most
    pub hasher : after.hasher ≡ x.hasher

-- if `a` and `b` are bags of one kind, `after` is one whose counts are f of their counts
abbrev pub CombinesTo : (ℕ → ℕ → ℕ) → Option Held → Option Held → Option Held → Type 0
CombinesTo f a b after = BothNumbers a b (λ x y. HasNumbers after (Combines nat_eq f x y)) × BothTexts a b (λ x y. HasTexts after (Combines bytes_eq f x y))

-- a bag has n occurrences more, or n fewer
abbrev pub GrowsBy : {T S : Type 0} → ℕ → Bag T S → Bag T S → Type 0
GrowsBy n bag after = length after.items ≡ length bag.items + n

abbrev pub ShrinksBy : {T S : Type 0} → ℕ → Bag T S → Bag T S → Type 0
ShrinksBy n bag after = length after.items + n ≡ length bag.items

-- n more are within the limit of a bag
abbrev pub CanHold : {T S : Type 0} → Bag T S → ℕ → Type 0
CanHold bag n = length bag.items + n ≤ bag.most

-- the total changes as the count of one value did, from `was` to `is`
abbrev pub TotalChangesAs : {T S : Type 0} → ℕ → ℕ → Bag T S → Bag T S → Type 0
TotalChangesAs was is bag after = length after.items + was ≡ length bag.items + is

-- the total changes by as much as the count of what a key names. That count is `now` afterwards
abbrev pub TotalFollows : {T S : Type 0} → (T → Bool) → ℕ → Bag T S → Bag T S → Type 0
TotalFollows names now bag after = TotalChangesAs (count_named names bag.items) now bag after

-- n of a byte string were inserted
abbrev pub InsertsText : List ℕ → ℕ → Bag (List ℕ) Keys → Bag (List ℕ) Keys → Type 0
InsertsText bytes n bag after = InsertsNamed bytes_eq (named bytes) n bag after

-- the total stays within the limit if the count of the byte string is raised to n. A count above n is left as it is
abbrev pub CanSet : List ℕ → ℕ → Bag (List ℕ) Keys → Type 0
CanSet bytes n bag = CanHold bag (n - occurs bytes bag)

-- if `failed` holds, each union of x and y is larger than the limit of x
pub record UnionPassesLimitIf {T S : Type 0} (eq : T → T → Bool) (x y : Bag T S) (failed : Type 0) : Type 0 where
  pub beyond : (Z : List T) → IsUnion eq x.items y.items Z → failed → x.most < length Z

-- a bag is empty, and has this limit and these keys
abbrev pub IsEmptyWithKeys : {T : Type 0} → ℕ → ℕ → ℕ → Bag T Keys → Type 0
IsEmptyWithKeys most key0 key1 bag = (bag.items ≡ []) × (bag.most ≡ most) × (bag.hasher.key0 ≡ key0) × (bag.hasher.key1 ≡ key1)
