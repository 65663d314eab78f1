-- The joins of what two runs of steps leave.
use Rattle.std.specs.Prelude.{◌≡◌, ℕ, ◌+◌, ◌<◌, Bool, List, All, map}
use Rattle.std.specs.Borrow.{Bor}
use Rattle.hashbag.specs.Bag.{Bag, Means}
use Rattle.hashbag.specs.Joins.{IsOuterJoin, IsDifference, IsNotIn, IsSignedDifference}
use Rattle.hashbag.specs.Script.{run}
use Rattle.hashbag_script.specs.declared.script.Step.{Step}
use Rattle.hashbag_run_lib.specs.declared.joined.JoinLists.{JoinLists}

-- `copies` are `pairs` with copies of the values that `pairs` lends
abbrev pub AreCopiesOf : {T N : Type 0} → List (Bor T × N) → List (T × N) → Type 0
AreCopiesOf pairs copies = copies ≡ map (λ e. (e.0.now, e.1)) pairs

-- the same for items with two counts
abbrev pub AreJoinCopiesOf : {T : Type 0} → List (Bor T × ℕ × ℕ) → List (T × ℕ × ℕ) → Type 0
AreJoinCopiesOf joins copies = copies ≡ map (λ j. (j.0.now, j.1, j.2)) joins

-- the joins of what steps leave of the bags a and b. For all lists X and Y that the bags meant before, let the steps turn them into other lists:
-- (1) the outer join lists each value of these two lists once, the values of the first list before others, with both counts, of which one is
-- above 0; (2) the other joins follow from these counts
pub record AreJoinsAfter {T S S2 : Type 0} (eq : T → T → Bool) (a : Bag T S) (steps_a : List (Step T)) (b : Bag T S2) (steps_b : List (Step T)) (joins : JoinLists T) : Type 0 where
  pub outer : (X Y : List T) → Means a X → Means b Y → IsOuterJoin eq (run eq a.most X steps_a).0 (run eq b.most Y steps_b).0 joins.outer.items
  pub none_zero : All (λ j. 0 < j.1 + j.2) joins.outer.items
  pub difference : (X Y : List T) → Means a X → Means b Y → IsDifference eq (run eq a.most X steps_a).0 (run eq b.most Y steps_b).0 joins.difference.items
  pub signed : (X Y : List T) → Means a X → Means b Y → IsSignedDifference eq (run eq a.most X steps_a).0 (run eq b.most Y steps_b).0 joins.signed.items
  pub not_in : (X Y : List T) → Means a X → Means b Y → IsNotIn eq (run eq a.most X steps_a).0 (run eq b.most Y steps_b).0 joins.not_in.items
