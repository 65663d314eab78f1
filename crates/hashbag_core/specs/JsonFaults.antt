-- Why a tree isn't read as a bag. Pairs are numbered from 0.
use Rattle.std.specs.Prelude.{◌≡◌, ◌≢◌, ℕ, ◌+◌, ◌≤◌, ◌&&◌, ◌||◌, nat_lt, min, if◌then◌else◌, Bool, true, List, [], ◌∷◌, ◌++◌, length, map, Vec, Option, Some, None, option_map, option_and_then, unwrap_or, Result, Ok, Err, codes}
use Rattle.std.specs.Option.{option_or}
use Rattle.std.specs.Str.{bytes_eq}
use Rattle.serde_json.specs.Data.{Data, null, boolean, number, string, array, object, Items, no_items, item, Members, no_members, member}
use Rattle.serde_json.specs.View.{view}
use Rattle.serde_json.specs.declared.value.Value.{Value}
use Rattle.serde_json.specs.Find.{as_array, get_member}
use Rattle.hashbag_core.specs.Bag.{Bag}
use Rattle.hashbag_core.specs.JsonItems.{u64_of, u64_item}
use Rattle.hashbag_core.specs.Occurrences.{greatest_total}
use Rattle.hashbag_core.specs.declared.json.JsonError.{JsonError}
use Rattle.hashbag_core.specs.declared.json.JsonError.TheVariants.{NotAnArray, NotAPair, BadCount, BadItem, TooMany, Memory, BadLimit}

-- the trees of the items of an array, as a list
abbrev pub list_of : Items → List Data
list_of no_items = []
list_of (item d ds) = d ∷ list_of ds

-- the trees in an array, none if a tree is no array
abbrev pub array_of : Data → Option (List Data)
array_of d = option_map list_of (as_array d)

-- the trees of the values of a list
abbrev pub trees_in : {A : Type 0} → Vec Value A → List Data
trees_in list = map view list.items

-- ---- the limit of a tree, and the trees of its pairs

-- the name of the member that has the limit
abbrev pub limit_name : List ℕ
limit_name = codes "limit"

-- the name of the member that has the pairs
abbrev pub pairs_name : List ℕ
pairs_name = codes "pairs"

-- each member has one of the two names
abbrev pub has_no_other : Members → Bool
has_no_other no_members = true
has_no_other (member name d ms) = (bytes_eq name limit_name || bytes_eq name pairs_name) && has_no_other ms

-- the member `pairs`, if it is an array and no member has a third name
abbrev pub pairs_in : Members → Option (List Data)
pairs_in ms = if has_no_other ms then option_and_then array_of (get_member pairs_name ms) else None

-- the member `limit`, if it is a whole number from 0 to `usize::MAX`
abbrev pub limit_in : Members → Option ℕ
limit_in ms = option_and_then u64_item (get_member limit_name ms)

-- what `opened` gives of an object with these pairs and this limit. The pairs are judged before the limit
abbrev pub opened_object : Option (List Data) → Option ℕ → Result (ℕ × List Data) JsonError
opened_object None limit = Err NotAnArray
opened_object (Some ds) None = Err BadLimit
opened_object (Some ds) (Some limit) = Ok (limit, ds)

-- the limit of a tree and the trees of its pairs, or the error if the tree is rejected before any pair is judged. An array has the greatest
-- limit, and its items are the pairs. An object has a member for the limit and a member for the pairs
abbrev pub opened : Data → Result (ℕ × List Data) JsonError
opened null = Err NotAnArray
opened (boolean b) = Err NotAnArray
opened (number n) = Err NotAnArray
opened (string s) = Err NotAnArray
opened (array ds) = Ok (greatest_total, list_of ds)
opened (object ms) = opened_object (pairs_in ms) (limit_in ms)

-- the limit that was read of a tree, 0 if the tree is rejected
abbrev pub limit_opened : Result (ℕ × List Data) JsonError → ℕ
limit_opened (Ok p) = p.0
limit_opened (Err e) = 0

-- the limit of a tree, 0 if `opened` rejects it
abbrev pub limit_of : Data → ℕ
limit_of d = limit_opened (opened d)

-- ---- pairs

-- the two trees of a list of exactly two
abbrev pub two_of : List Data → Option (Data × Data)
two_of [] = None
two_of (d ∷ []) = None
two_of (d ∷ e ∷ []) = Some (d, e)
two_of (d ∷ e ∷ f ∷ more) = None

-- the two trees of an array of exactly two, none if a tree is no such array
abbrev pub pair_of : Data → Option (Data × Data)
pair_of d = option_and_then two_of (array_of d)

-- the count in a pair, none if the tree is no pair, or if its second part is no whole number from 0 to 2 ^ 64 - 1
abbrev pub pair_count : Data → Option ℕ
pair_count d = option_and_then (λ p. u64_of p.1) (pair_of d)

-- d is a pair with a count and an item's tree
pub record IsCountedItem (has_item : Data → Bool) (d : Data) : Type 0 where
  pub tree : Data
  pub number : Data
  pub count : ℕ
  pub parts : pair_of d ≡ Some (tree, number)
  pub is_count : u64_of number ≡ Some count
  pub item : has_item tree ≡ true

-- `limit` is the limit under which the pairs are read, and `has_item` decides which trees are the trees of items
module _ (limit : ℕ) (has_item : Data → Bool) where
  -- the fault of pair i by its item and its count, if the counts before it sum to `total`: the count is judged before the
  -- item, and the item before the total
  abbrev pub part_fault : ℕ → ℕ → Data → Option ℕ → Option JsonError
  part_fault i total d None = Some (BadCount i)
  part_fault i total d (Some n) = if has_item d then (if nat_lt limit (total + n) then Some (TooMany i) else None) else Some (BadItem i)

  -- the fault of pair i, if the counts before it sum to `total`: `NotAPair` if it is no pair, else the fault of its item and its count
  abbrev pub pair_fault : ℕ → ℕ → Option (Data × Data) → Option JsonError
  pair_fault i total None = Some (NotAPair i)
  pair_fault i total (Some p) = part_fault i total p.0 (u64_of p.1)

  -- the first fault among pairs, which are numbered from i
  unfoldable pub first_fault : ℕ → ℕ → List Data → Option JsonError
  first_fault i total [] = None
  first_fault i total (d ∷ ds) = option_or (pair_fault i total (pair_of d)) (first_fault (i + 1) (total + unwrap_or (pair_count d) 0) ds)

  -- reading these pairs may fail with `Memory`: at a pair that has a count and an item, if no pair before it has a fault. That pair's own
  -- count may be too great for the limit
  pub record MayRunOutAmong (ds : List Data) : Type 0 where
    pub before : List Data
    pub pair : Data
    pub after : List Data
    pub parts : ds ≡ before ++ pair ∷ after
    pub good : first_fault 0 0 before ≡ None
    pub allocates : IsCountedItem has_item pair

module _ (has_item : Data → Bool) where
  -- the fault of pair i if the pairs before it were read as this bag
  abbrev pub fault_after : {T S : Type 0} → ℕ → Bag T S → Data → Option JsonError
  fault_after i bag d = pair_fault bag.most has_item i (length bag.items) (pair_of d)

  -- if d is an array, its pairs have no fault under any limit of k or more
  abbrev pub HasNoFaultFrom : ℕ → Data → Type 0
  HasNoFaultFrom k d = (ds : List Data) (n : ℕ) → array_of d ≡ Some ds → k ≤ n → first_fault n has_item 0 0 ds ≡ None

-- the error e is `Memory`, or it is the fault that was found
abbrev pub IsFault : Option JsonError → JsonError → Type 0
IsFault found e = e ≢ Memory → found ≡ Some e

-- `most` is the greatest limit that the bag may have: a tree with a greater one is read under `most`
module _ (most : ℕ) (has_item : Data → Bool) where
  -- the fault of a tree, from what `opened` gives of the tree. The limit is the tree's or `most`, whichever is less
  abbrev pub opened_fault : Result (ℕ × List Data) JsonError → Option JsonError
  opened_fault (Err e) = Some e
  opened_fault (Ok p) = first_fault (min most p.0) has_item 0 0 p.1

  -- the first fault of a tree under its limit or `most`, whichever is less, in the order that `from_value_with_hasher` lists; none if it is read
  abbrev pub fault : Data → Option JsonError
  fault d = opened_fault (opened d)

  -- reading d may fail with `Memory`
  pub record MayRunOut (d : Data) : Type 0 where
    pub limit : ℕ
    pub trees : List Data
    pub inside : opened d ≡ Ok (limit, trees)
    pub among : MayRunOutAmong (min most limit) has_item trees
