-- How `retain` changes a bag, by a closure that returns how many of each value are kept.
use Rattle.std.specs.Prelude.{ℕ, Bool, List}
use denote.Ref.{Bor}
use denote.Param.Members.{Mut}
use Rattle.hashbag_table.specs.Returned.{ReturnsInTurn, retained_entries}
use Rattle.hashbag_core.specs.Bag.{Bag, occurrences, IsBagOf}
use Rattle.hashbag_core.specs.Walks.{IsSetWalkOf}

-- f was called with each entry of a set walk of the bag in turn. Each call got the closure as the previous call left it. Each value has the lesser
-- of its count and the returned number
pub record IsRetained {F T S : Type 0} (eq : T → T → Bool) (g : Mut F (Bor T × (ℕ × Unit {0})) ℕ) (f : F) (before after : Bag T S) : Type 0 where
  pub walk : List (T × ℕ)
  pub set_walk : IsSetWalkOf eq before walk
  pub returned : List ℕ
  pub last : F
  pub calls : ReturnsInTurn g f walk returned last
  pub left : IsBagOf eq before (occurrences (retained_entries walk returned)) after
