-- When two bags are equal.
use Rattle.std.specs.Prelude.{nat_eq, Bool, List, ◌++◌}
use Rattle.std.specs.List.{list_all}
use Rattle.hashbag_core.specs.Bag.{Bag}
use Rattle.hashbag_core.specs.Occurrences.{count}

module _ {T : Type 0} (eq : T → T → Bool) where
  -- whether each value that occurs in X or in Y occurs as often in both. It is true exactly if `SameCounts` holds
  unfoldable pub same_counts : List T → List T → Bool
  same_counts X Y = list_all (λ x. nat_eq (count eq x X) (count eq x Y)) (X ++ Y)

  -- whether two bags have the same counts: instances, states, limits and the order of the occurrences don't matter
  abbrev pub bag_eq : {S : Type 0} → Bag T S → Bag T S → Bool
  bag_eq a b = same_counts a.items b.items
