-- The definitions of the joins compute, on items as in `Examples`.
use Rattle.std.specs.Prelude.{◌≡◌, pos, negsuc, ◌-ℤ◌, List, [], ◌∷◌, refl}
use Rattle.std.proofs.Common.{lit<}
use Rattle.std.proofs.lemmas.List.Elements.{All-from_recursion}
use Rattle.std.specs.List.{IsDistinct, Contains}
use Rattle.hashbag_core.specs.Examples.{Tagged, same_key, bag, each_value}
use Rattle.hashbag_core.specs.Joins.{saturated, only_in_second, IsOuterJoin, IsSignedDifference}
use Rattle.hashbag_core.specs.JoinsLeft.{with_second, excesses, lacking, with_no_first, subtracted}
use Rattle.hashbag_core.specs.Walks.{IsEach}

-- 1 and 3 once each, another instance of 1 than in `bag`
abbrev other_bag : List Tagged
other_bag = (3, 30) ∷ (1, 20) ∷ []

-- ---- `saturated` and `alone`

within : saturated (pos 2 -ℤ pos 5) ≡ negsuc 2
within = refl

too_great : saturated (pos 9223372036854775808) ≡ pos 9223372036854775807
too_great = refl

least : saturated (negsuc 9223372036854775807) ≡ negsuc 9223372036854775807
least = refl

too_small : saturated (negsuc 9223372036854775808) ≡ negsuc 9223372036854775807
too_small = refl

three_only_in_second : only_in_second same_key bag other_bag ≡ (3, 30) ∷ []
three_only_in_second = refl

-- ---- an outer join

each_only_in_second : IsEach same_key ((3, 30) ∷ []) ((3, 30) ∷ [])
unfolding IsDistinct
each_only_in_second =
    let three : Contains {X = Tagged} ((3, 30) ∷ []) (3, 30) = (0, lit< tt, refl) in
    record {
      once = (tt, tt);
      all = All-from_recursion (Contains ((3, 30) ∷ [])) ((3, 30) ∷ []) (three, tt);
      only = All-from_recursion (Contains ((3, 30) ∷ [])) ((3, 30) ∷ []) (three, tt);
    }

outer : IsOuterJoin same_key bag other_bag (((2, 7), 1, 0) ∷ ((1, 10), 2, 1) ∷ ((3, 30), 0, 1) ∷ [])
outer = record { first = (2, 7) ∷ (1, 10) ∷ []; second = (3, 30) ∷ []; of_first = each_value; of_second = each_only_in_second; counts = refl }

signed : IsSignedDifference same_key bag other_bag (((2, 7), pos 1) ∷ ((1, 10), pos 1) ∷ ((3, 30), negsuc 0) ∷ [])
signed = record { outer = ((2, 7), 1, 0) ∷ ((1, 10), 2, 1) ∷ ((3, 30), 0, 1) ∷ []; is_outer = outer; signed = refl }

-- ---- what a join still gives

seconds : with_second same_key other_bag (((2, 7), 1) ∷ ((1, 10), 2) ∷ []) ≡ ((2, 7), 1, 0) ∷ ((1, 10), 2, 1) ∷ []
seconds = refl

excess : excesses same_key other_bag (((2, 7), 1) ∷ ((1, 10), 2) ∷ ((3, 5), 1) ∷ []) ≡ ((2, 7), 1) ∷ ((1, 10), 1) ∷ []
excess = refl

lack : lacking same_key other_bag (((2, 7), 1) ∷ ((1, 10), 2) ∷ []) ≡ ((2, 7), 1) ∷ []
lack = refl

no_firsts : with_no_first {T = Tagged} (((3, 30), 1) ∷ []) ≡ ((3, 30), 0, 1) ∷ []
no_firsts = refl

differences : subtracted {T = Tagged} (((1, 10), 2, 1) ∷ ((3, 30), 0, 1) ∷ []) ≡ ((1, 10), pos 1) ∷ ((3, 30), negsuc 0) ∷ []
differences = refl
