-- How each step of a run changes a bag's tables.
use Rattle.std.specs.Prelude.{◌≡◌, ℕ, ◌-◌, ◌<◌, ◌⊎◌, Bool, List, [], ◌∷◌, length, take}
use Rattle.std.specs.List.Sorted.{IsPermutation}
use Rattle.hashbag_table.specs.Tables.{Tables, values, Arrives, ReservesOrStays, ShrinksOrStays}
use Rattle.hashbag_table.specs.Retained.{RetainsTables}
use Rattle.hashbag_core.specs.Bag.{Bag, Means}
use Rattle.hashbag_core.specs.Held.{AreHeld, Recounts, StoresOver, no_slots_after_building, cleared}
use Rattle.hashbag_core.specs.Occurrences.{count, distinct_count}
use Rattle.hashbag_script.specs.declared.script.Step.{Step}
use Rattle.hashbag_script.specs.declared.script.Step.TheVariants.{Insert, InsertMany, Replace, Remove, RemoveUpTo, TryTake, TakeAll, EntrySet, EntryOr, Retain, Clear, Count, Reserve, ShrinkToFit, Limit}
use Rattle.hashbag_script.specs.Pairs.{Ran}
use Rattle.hashbag_script.specs.Script.{step, limit_after, IsBounded}

-- the steps of a run that have replies
abbrev pub answered : {T S : Type 0} → Ran T S → List (Step T)
answered r = take (length r.replies_after - length r.replies_before) r.steps

module _ {T : Type 0} where
  -- How a step on one value changes the tables, if the value's count was c before and is d after. If the value was absent and is present, it
  -- arrived: the next 16 waiting slots were carried. If it was absent and is so still, the tables are unchanged. If it was present, they are as
  -- `InPlace` says.
  pub record LeavesValue (c d : ℕ) (InPlace : Type 0) (old new : Tables T) : Type 0 where
    pub arrives : c ≡ 0 → 0 < d → Arrives old new
    pub absent : c ≡ 0 → d ≡ 0 → new ≡ old
    pub present : 0 < c → InPlace

module _ {T : Type 0} (eq : T → T → Bool) where
  -- v had the count c, and has the count d. Only the slot of v changed, and has the new count; or the count and the tables are unchanged
  abbrev pub SetsCount : T → ℕ → ℕ → Tables T → Tables T → Type 0
  SetsCount v c d old new = LeavesValue c d (Recounts eq v d old new ⊎ ((d ≡ c) × (new ≡ old))) old new

  -- v itself is stored: in the slot of the value that is equal to it, if there was one
  abbrev pub StoresValue : T → ℕ → ℕ → Tables T → Tables T → Type 0
  StoresValue v c d old new = LeavesValue c d (StoresOver eq v old new) old new

  -- how `shrink_to_fit` changes the tables of a bag that means X
  pub record Shrinks (X : List T) (old new : Tables T) : Type 0 where
    pub none : X ≡ [] → new ≡ no_slots_after_building old.built
    pub shrinks : ShrinksOrStays (distinct_count eq X) old new

  -- How a step changes the tables, if it turned the list X into Y. A step on a value changes the tables for that value alone. `Retain` changes
  -- counts in place, and `Clear` empties the slots. `Reserve n` makes room for n more values if there isn't that room, and `ShrinkToFit` builds a
  -- smaller table if one is enough. If one of the two changes the tables, no slot waits then. The other steps change none.
  abbrev pub LeavesTables : List T → List T → Step T → Tables T → Tables T → Type 0
  LeavesTables X Y (Insert v) old new = SetsCount v (count eq v X) (count eq v Y) old new
  LeavesTables X Y (InsertMany v n) old new = SetsCount v (count eq v X) (count eq v Y) old new
  LeavesTables X Y (Replace v) old new = StoresValue v (count eq v X) (count eq v Y) old new
  LeavesTables X Y (Remove v) old new = SetsCount v (count eq v X) (count eq v Y) old new
  LeavesTables X Y (RemoveUpTo v q) old new = SetsCount v (count eq v X) (count eq v Y) old new
  LeavesTables X Y (TryTake v) old new = SetsCount v (count eq v X) (count eq v Y) old new
  LeavesTables X Y (TakeAll v) old new = SetsCount v (count eq v X) (count eq v Y) old new
  LeavesTables X Y (EntrySet v n) old new = SetsCount v (count eq v X) (count eq v Y) old new
  LeavesTables X Y (EntryOr v q) old new = SetsCount v (count eq v X) (count eq v Y) old new
  LeavesTables X Y (Retain list) old new = RetainsTables old new
  LeavesTables X Y Clear old new = new ≡ cleared old
  LeavesTables X Y (Count v) old new = new ≡ old
  LeavesTables X Y (Reserve n) old new = ReservesOrStays n (distinct_count eq X) old new
  LeavesTables X Y ShrinkToFit old new = Shrinks X old new
  LeavesTables X Y (Limit n) old new = new ≡ old

  -- how a step changes the tables of a bag: `LeavesTables` for the bag's lists and tables before and after the step
  abbrev pub LeavesTablesOf : {S : Type 0} → Step T → Bag T S → Bag T S → Type 0
  LeavesTablesOf s before after = LeavesTables before.items after.items s before.tables after.tables

  -- the tables hold the list X, in whichever order: its values with their counts are the Live slots. There are as many Live slots as X has distinct
  -- values
  pub record TablesHold (X : List T) (t : Tables T) : Type 0 where
    pub items : List T
    pub means : IsPermutation X items
    pub held : AreHeld eq items t
    pub number : values t ≡ distinct_count eq X

  -- before each step the tables hold the list of that moment. Each step leaves the tables as `LeavesTables` says, and the next step begins with these
  abbrev pub TablesInTurn : ℕ → List T → List (Step T) → Tables T → Tables T → Type 0
  TablesInTurn most X [] old new = new ≡ old
  TablesInTurn most X (s ∷ steps) old new =
      let Y = (step eq most X s).0 in
      (next : Tables T) × TablesHold X old × LeavesTables X Y s old next × TablesInTurn (limit_after eq most X s) Y steps next new

  -- `TablesInTurn` holds of the steps that have replies, whichever list the bag meant
  abbrev pub AreTablesInTurn : {S : Type 0} → Ran T S → Type 0
  AreTablesInTurn r = (X : List T) → Means r.before X → TablesInTurn r.before.most X (answered r) r.before.tables r.after.tables

  -- from an empty bag with no slots a run leaves no more slots than `IsBounded` says
  abbrev pub IsBoundedRun : {S : Type 0} → Ran T S → Type 0
  IsBoundedRun r = r.before.items ≡ [] → r.before.tables.newer ≡ [] → IsBounded eq r.before.most (answered r) r.before.tables r.after.tables
