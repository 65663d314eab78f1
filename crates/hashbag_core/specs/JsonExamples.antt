-- The definitions of trees compute. Items here are whole numbers below 2 ^ 64, and `most` is 9.
use Rattle.std.specs.Prelude.{◌≡◌, ℕ, ◌==◌, ℤ, Bool, List, [], ◌∷◌, codes, Option, Some, None, is_some, Ok, refl}
use Rattle.std.proofs.Common.{lit<}
use Rattle.std.proofs.lemmas.List.Elements.{All-from_recursion}
use Rattle.std.specs.Ordering.{nat_cmp}
use Rattle.std.specs.List.{IsDistinct, Contains}
use Rattle.std.specs.List.Sorted.{IsStrictlySortedBy}
use Rattle.serde_json.specs.Data.{Data, null, number, unsigned, negative, string, array, object, member, no_members}
use Rattle.serde_json.specs.View.{items_of}
use Rattle.hashbag_core.specs.declared.json.JsonError.{JsonError}
use Rattle.hashbag_core.specs.declared.json.JsonError.TheVariants.{NotAnArray, NotAPair, BadCount, BadItem, TooMany, BadLimit}
use Rattle.hashbag_core.specs.Extends.{add_all}
use Rattle.hashbag_core.specs.JsonFaults.{limit_name, pairs_name, opened, limit_of, fault, MayRunOut, first_fault}
use Rattle.hashbag_core.specs.JsonItems.{u64_of, i64_of}
use Rattle.hashbag_core.specs.JsonTrees.{IsPair, IsReading, IsTree, written}
use Rattle.hashbag_core.specs.Occurrences.{greatest_total}

abbrev same : ℕ → ℕ → Bool
same a b = a == b

abbrev tree_of : ℕ → Data
tree_of n = number (unsigned n)

abbrev has_item : Data → Bool
has_item d = is_some (u64_of d)

abbrev reads : Data → ℕ → Type 0
reads d n = u64_of d ≡ Some n

abbrev list : List Data → Data
list ds = array (items_of ds)

abbrev pair : Data → Data → Data
pair d e = list (d ∷ e ∷ [])

abbrev fault_of : List Data → Option JsonError
fault_of ds = fault 9 has_item (list ds)

abbrev text : Data
text = string (codes "a")

-- ---- numbers

negative_is_no_u64 : u64_of (number (negative (ℤ.negsuc 0))) ≡ None
negative_is_no_u64 = refl

negative_is_i64 : i64_of (number (negative (ℤ.negsuc 0))) ≡ Some (ℤ.negsuc 0)
negative_is_i64 = refl

text_is_no_number : u64_of text ≡ None
text_is_no_number = refl

-- ---- faults

no_array : fault 9 has_item null ≡ Some NotAnArray
no_array = refl

empty : fault_of [] ≡ None
unfolding first_fault
empty = refl

no_pair : fault_of (null ∷ []) ≡ Some (NotAPair 0)
unfolding first_fault
no_pair = refl

three_are_no_pair : fault_of (list (tree_of 1 ∷ tree_of 1 ∷ tree_of 1 ∷ []) ∷ []) ≡ Some (NotAPair 0)
unfolding first_fault
three_are_no_pair = refl

-- the count is judged before the item
bad_count : fault_of (pair (tree_of 1) (tree_of 1) ∷ pair text null ∷ []) ≡ Some (BadCount 1)
unfolding first_fault
bad_count = refl

-- the item is judged even if the count is 0, and before the total
bad_item : fault_of (pair text (tree_of 0) ∷ []) ≡ Some (BadItem 0)
unfolding first_fault
bad_item = refl

bad_item_before_total : fault_of (pair (tree_of 1) (tree_of 9) ∷ pair text (tree_of 1) ∷ []) ≡ Some (BadItem 1)
unfolding first_fault
bad_item_before_total = refl

too_many : fault_of (pair (tree_of 1) (tree_of 9) ∷ pair (tree_of 2) (tree_of 1) ∷ null ∷ []) ≡ Some (TooMany 1)
unfolding first_fault
too_many = refl

just_enough : fault_of (pair (tree_of 1) (tree_of 9) ∷ pair (tree_of 2) (tree_of 0) ∷ []) ≡ None
unfolding first_fault
just_enough = refl

-- reading may fail with `Memory` at a pair that passes the limit, since its item is allocated first
may_run_out : MayRunOut 9 has_item (list (pair (tree_of 1) (tree_of 9) ∷ pair (tree_of 2) (tree_of 1) ∷ []))
unfolding first_fault
may_run_out = record {
  limit = greatest_total;
  trees = pair (tree_of 1) (tree_of 9) ∷ pair (tree_of 2) (tree_of 1) ∷ [];
  inside = refl;
  among = record {
    before = pair (tree_of 1) (tree_of 9) ∷ [];
    pair = pair (tree_of 2) (tree_of 1);
    after = [];
    parts = refl;
    good = refl;
    allocates = record { tree = tree_of 2; number = tree_of 1; count = 1; parts = refl; is_count = refl; item = refl };
  };
}

-- ---- limits

-- the object of a limit and pairs
abbrev limited_tree : Data → List Data → Data
limited_tree limit ds = object (member limit_name limit (member pairs_name (list ds) no_members))

array_has_the_greatest : limit_of (list []) ≡ greatest_total
array_has_the_greatest = refl

limit_is_read : opened (limited_tree (tree_of 5) (null ∷ [])) ≡ Ok (5, null ∷ [])
limit_is_read = refl

-- the lesser of both limits holds
lesser_limit : fault 9 has_item (limited_tree (tree_of 5) (pair (tree_of 1) (tree_of 6) ∷ [])) ≡ Some (TooMany 0)
unfolding first_fault
lesser_limit = refl

lesser_given : fault 5 has_item (limited_tree (tree_of 9) (pair (tree_of 1) (tree_of 6) ∷ [])) ≡ Some (TooMany 0)
unfolding first_fault
lesser_given = refl

-- a bad limit is returned before a pair is judged
negative_limit : fault 9 has_item (limited_tree (number (negative (ℤ.negsuc 0))) (null ∷ [])) ≡ Some BadLimit
negative_limit = refl

no_limit : fault 9 has_item (object (member pairs_name (list []) no_members)) ≡ Some BadLimit
no_limit = refl

-- a missing or an extra member is returned before a bad limit
no_pairs : fault 9 has_item (object (member limit_name (tree_of 1) no_members)) ≡ Some NotAnArray
no_pairs = refl

third_member : fault 9 has_item (object (member pairs_name (list []) (member (codes "x") null no_members))) ≡ Some NotAnArray
third_member = refl

written_without_limit : written greatest_total (list []) ≡ list []
written_without_limit = refl

written_with_limit : written 0 (list []) ≡ limited_tree (tree_of 0) []
written_with_limit = refl

-- ---- readings and trees

one_pair : IsPair reads (pair (tree_of 7) (tree_of 2)) (7, 2)
one_pair = record { tree = tree_of 7; number = tree_of 2; parts = refl; item = refl; count = refl }

reading : IsReading reads (list (pair (tree_of 7) (tree_of 2) ∷ [])) ((7, 2) ∷ [])
reading = record { limit = greatest_total; trees = pair (tree_of 7) (tree_of 2) ∷ []; inside = refl; each = (one_pair, tt) }

-- equal items add up, and a pair with the count 0 adds nothing
read_in_turn : add_all same [] ((7, 2) ∷ (8, 0) ∷ (7, 1) ∷ []) ≡ 7 ∷ 7 ∷ 7 ∷ []
read_in_turn = refl

-- each value once, with its count, values in ascending order
tree : IsTree same nat_cmp tree_of (8 ∷ 7 ∷ 8 ∷ []) (list (pair (tree_of 7) (tree_of 1) ∷ pair (tree_of 8) (tree_of 2) ∷ []))
unfolding IsDistinct IsStrictlySortedBy
tree =
    let in_values = Contains (7 ∷ 8 ∷ []) in
    let seven : in_values 7 = (0, lit< tt, refl) in
    let eight : in_values 8 = (1, lit< tt, refl) in
    record {
      pairs = (7, 1) ∷ (8, 2) ∷ [];
      walk = record {
        values = 7 ∷ 8 ∷ [];
        each = record {
          once = ((refl, tt), (tt, tt));
          all = All-from_recursion in_values (8 ∷ 7 ∷ 8 ∷ []) (eight, (seven, (eight, tt)));
          only = All-from_recursion (Contains (8 ∷ 7 ∷ 8 ∷ [])) (7 ∷ 8 ∷ []) ((1, lit< tt, refl), ((0, lit< tt, refl), tt));
        };
        counts = refl;
      };
      rising = ((refl, tt), (tt, tt));
      is = refl;
    }
