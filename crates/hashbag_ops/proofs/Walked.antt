-- What a set walk has.
use Rattle.std.proofs.Common.{ℕ, ◌<◌, Bool, List, All, sym}
use Rattle.std.specs.Cmp.{IsEquivalence}
use Rattle.std.specs.List.{Contains}
use Rattle.std.proofs.lemmas.List.Elements.{All-contains}
use Rattle.hashbag_core.specs.Occurrences.{count}
use Rattle.hashbag_core.specs.Walks.{IsSetWalk}
use Rattle.hashbag_core.proofs.ContainsLemmas.{All-from_Contains, Contains-map, Contains-same}
use Rattle.hashbag_core.proofs.JoinLemmas.{count_of_item, in_walk}

module _ {T : Type 0} {eq : T → T → Bool} where
  -- an instance that occurs is in a set walk, with its count
  pub onto_walk : (X : List T) (W : List (T × ℕ)) → IsSetWalk eq X W → (v : T) → Contains X v → Contains W (v, count eq v X)
  onto_walk X W h v there =
      Contains-same _ W (v, count eq v X) (sym h.counts) (Contains-map (λ v. (v, count eq v X)) v h.values (All-contains (λ x. Contains h.values x) X v h.each.all there))

module _ {T : Type 0} {eq : T → T → Bool} (laws : IsEquivalence eq) where
  -- each value of a set walk occurs
  pub all_occur : (X : List T) (W : List (T × ℕ)) → IsSetWalk eq X W → All (λ e. 0 < count eq e.0 X) W
  all_occur X W h = All-from_Contains (λ e. 0 < count eq e.0 X) W (λ e there. count_of_item laws e.0 X (in_walk laws X W h e there).0)
