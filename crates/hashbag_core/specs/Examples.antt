-- Examples, by evaluation. An item here is a key with a tag, and two items are equal if their keys are: so `(1, 10)` and
-- `(1, 20)` are two instances of one value.
use Rattle.std.specs.Prelude.{◌≡◌, ℕ, ◌==◌, Bool, List, [], ◌∷◌, Some, None, refl}
use Rattle.std.proofs.Common.{lit<, sym}
use Rattle.std.proofs.lemmas.Bool.{false≢true}
use Rattle.std.proofs.lemmas.List.Elements.{All-from_recursion}
use Rattle.std.specs.List.{IsDistinct, Contains}
use Rattle.std.specs.List.Sorted.{IsPermutation}
use Rattle.hashbag_table.specs.Returned.{retained_entries as kept_of}
use Rattle.hashbag_core.specs.Bag.{occurrences}
use Rattle.hashbag_core.specs.Equality.{same_counts}
use Rattle.hashbag_core.specs.Extends.{add_all}
use Rattle.hashbag_core.specs.Occurrences.{count_named, stored_named, greatest_total, alike, others, count, instance, instance_or_itself, stored, add, less, put, distinct_count, SameCounts}
use Rattle.hashbag_core.specs.Walks.{IsEach, IsSetWalk, IsWalk}

-- an item: a key with a tag
abbrev pub Tagged : Type 0
Tagged = ℕ × ℕ

-- whether two items have the same key
abbrev pub same_key : Tagged → Tagged → Bool
same_key a b = a.0 == b.0

-- 1 twice and 2 once
abbrev pub bag : List Tagged
bag = (1, 10) ∷ (2, 7) ∷ (1, 10) ∷ []

-- ---- counts, instances, and changes of a list

the_end : greatest_total ≡ 18446744073709551615
the_end = refl

ones : alike same_key (1, 99) bag ≡ (1, 10) ∷ (1, 10) ∷ []
ones = refl

no_ones : others same_key (1, 99) bag ≡ (2, 7) ∷ []
no_ones = refl

counted : count same_key (1, 99) bag ≡ 2
counted = refl

none_counted : count same_key (3, 0) bag ≡ 0
none_counted = refl

found : instance same_key (1, 99) bag ≡ Some (1, 10)
found = refl

not_found : instance same_key (3, 99) bag ≡ None
not_found = refl

itself : instance_or_itself same_key (3, 99) bag ≡ (3, 99)
itself = refl

-- by a key that names the items with the number 1, and by a key that names the items with the number 3
by_key : count_named (λ (x : Tagged). x.0 == 1) bag ≡ 2
by_key = refl

stored_by_key : stored_named (λ (x : Tagged). x.0 == 1) bag ≡ Some ((1, 10), 2)
stored_by_key = refl

none_by_key : stored_named (λ (x : Tagged). x.0 == 3) bag ≡ None
none_by_key = refl

found_with_count : stored same_key (1, 99) bag ≡ Some ((1, 10), 2)
found_with_count = refl

-- the instance that is there stays
added : add same_key (1, 20) 2 bag ≡ (1, 10) ∷ (2, 7) ∷ (1, 10) ∷ (1, 10) ∷ (1, 10) ∷ []
added = refl

new_added : add same_key (3, 30) 1 bag ≡ (1, 10) ∷ (2, 7) ∷ (1, 10) ∷ (3, 30) ∷ []
new_added = refl

none_added : add same_key (3, 30) 0 bag ≡ bag
none_added = refl

one_less : less same_key (1, 20) 1 bag ≡ (2, 7) ∷ (1, 10) ∷ []
one_less = refl

all_less : less same_key (1, 20) 5 bag ≡ (2, 7) ∷ []
all_less = refl

new_put : put same_key (1, 30) 1 bag ≡ (2, 7) ∷ (1, 30) ∷ []
new_put = refl

two_values : distinct_count same_key bag ≡ 2
two_values = refl

-- the counts of two lists, whatever the instances and the order
same_in_counts : SameCounts same_key ((1, 10) ∷ (1, 10) ∷ []) ((1, 20) ∷ (1, 20) ∷ [])
same_in_counts v = refl

-- a rearrangement: places 0 and 1 exchanged
rearranged : IsPermutation bag ((2, 7) ∷ (1, 10) ∷ (1, 10) ∷ [])
rearranged = record { moves = (0, 1) ∷ []; below = (lit< tt, lit< tt, tt); is = refl }

entries_as_occurrences : occurrences {T = Tagged} (((1, 10), 2) ∷ ((2, 7), 1) ∷ []) ≡ (1, 10) ∷ (1, 10) ∷ (2, 7) ∷ []
entries_as_occurrences = refl

-- ---- walks

-- 2 is at place 0 of the values and at place 1 of the bag; 1 is at place 1 of the values and at place 0 of the bag
pub each_value : IsEach same_key bag ((2, 7) ∷ (1, 10) ∷ [])
unfolding IsDistinct
each_value =
    let in_values = Contains ((2, 7) ∷ (1, 10) ∷ []) in
    let two : in_values (2, 7) = (0, lit< tt, refl) in
    let one : in_values (1, 10) = (1, lit< tt, refl) in
    record {
      once = ((refl, tt), (tt, tt));
      all = All-from_recursion in_values bag (one, (two, (one, tt)));
      only = All-from_recursion (Contains bag) ((2, 7) ∷ (1, 10) ∷ []) ((1, lit< tt, refl), ((0, lit< tt, refl), tt));
    }

-- no value occurs twice
no_each : IsEach same_key bag ((1, 10) ∷ (2, 7) ∷ (1, 10) ∷ []) → ⊥
unfolding IsDistinct
no_each h = false≢true (sym h.once.0.1.0)

set_walk : IsSetWalk same_key bag (((2, 7), 1) ∷ ((1, 10), 2) ∷ [])
set_walk = record { values = (2, 7) ∷ (1, 10) ∷ []; each = each_value; counts = refl }

walk : IsWalk same_key bag ((2, 7) ∷ (1, 10) ∷ (1, 10) ∷ [])
walk = record { values = (2, 7) ∷ (1, 10) ∷ []; each = each_value; pieces = refl }

-- ---- returned numbers, insertions in turn and equality

-- the value 2 has the count 3, may keep 9, and keeps 3; the value 1 has 5, may keep 4, and keeps 4; the value 3 may keep 0, so it is removed
answered : kept_of {T = ℕ} ((2, 3) ∷ (1, 5) ∷ (3, 7) ∷ []) (9 ∷ 4 ∷ 0 ∷ []) ≡ (2, 3) ∷ (1, 4) ∷ []
answered = refl

-- the instance that is there stays, and a pair with 0 adds nothing
added_in_turn : add_all same_key ((1, 10) ∷ []) (((1, 20), 2) ∷ ((3, 30), 0) ∷ ((2, 7), 1) ∷ []) ≡ (1, 10) ∷ (1, 10) ∷ (1, 10) ∷ (2, 7) ∷ []
added_in_turn = refl

-- neither the order nor the instances matter
equal_bags : same_counts same_key bag ((2, 0) ∷ (1, 0) ∷ (1, 0) ∷ []) ≡ Bool.true
unfolding same_counts
equal_bags = refl

other_totals : same_counts same_key bag ((1, 10) ∷ (2, 7) ∷ []) ≡ Bool.false
unfolding same_counts
other_totals = refl

-- both lists have as many items, and as many distinct values, but other counts
other_counts : same_counts same_key bag ((1, 10) ∷ (2, 7) ∷ (2, 7) ∷ []) ≡ Bool.false
unfolding same_counts
other_counts = refl

more_on_the_other_side : same_counts same_key [] bag ≡ Bool.false
unfolding same_counts
more_on_the_other_side = refl
