-- The replies of whole runs of steps, and the list and the limit after them, on the plain list of a bag's occurrences.
use Rattle.std.specs.Prelude.{◌≡◌, ◌≢◌, ℕ, ◌+◌, ◌-◌, ◌*◌, ◌<◌, ◌≤◌, ◌==◌, max, nat_lt, if◌then◌else◌, Bool, true, false, List, [], ◌∷◌, ◌++◌, length, Vec, Result, OnErr}
use Rattle.std.specs.List.{list_any}
use Rattle.hashbag_table.specs.Tables.{Tables, room, IsLeast}
use Rattle.hashbag_script.specs.declared.script.Step.{Step}
use Rattle.hashbag_script.specs.declared.script.Step.TheVariants.{Insert, InsertMany, Replace, Remove, RemoveUpTo, TryTake, TakeAll, EntrySet, EntryOr, Retain, Clear, Count, Reserve, ShrinkToFit, Limit}
use Rattle.hashbag_script.specs.declared.script.Reply.{Reply}
use Rattle.hashbag_core.specs.Bag.{Bag, Means}
use Rattle.hashbag_core.specs.Occurrences.{greatest_total, count, distinct_count}
use Rattle.hashbag_script.specs.Rows.{insert_row, replace_row, remove_row, remove_up_to_row, try_take_row, take_all_row, entry_set_row, entry_or_row, retain_row, clear_row, count_row, reserve_row, shrink_to_fit_row, limit_row}

-- a list of steps
abbrev pub Steps : Type 0 → Type 0
Steps T = List (Step T)

module _ {T : Type 0} where
  -- whether the step reserves room, or gives it back
  abbrev pub reserves_or_shrinks : Step T → Bool
  reserves_or_shrinks (Insert v) = false
  reserves_or_shrinks (InsertMany v n) = false
  reserves_or_shrinks (Replace v) = false
  reserves_or_shrinks (Remove v) = false
  reserves_or_shrinks (RemoveUpTo v q) = false
  reserves_or_shrinks (TryTake v) = false
  reserves_or_shrinks (TakeAll v) = false
  reserves_or_shrinks (EntrySet v n) = false
  reserves_or_shrinks (EntryOr v q) = false
  reserves_or_shrinks (Retain list) = false
  reserves_or_shrinks Clear = false
  reserves_or_shrinks (Count v) = false
  reserves_or_shrinks (Reserve n) = true
  reserves_or_shrinks ShrinkToFit = true
  reserves_or_shrinks (Limit n) = false

  -- whether the step reserves room
  abbrev pub is_reserve : Step T → Bool
  is_reserve (Insert v) = false
  is_reserve (InsertMany v n) = false
  is_reserve (Replace v) = false
  is_reserve (Remove v) = false
  is_reserve (RemoveUpTo v q) = false
  is_reserve (TryTake v) = false
  is_reserve (TakeAll v) = false
  is_reserve (EntrySet v n) = false
  is_reserve (EntryOr v q) = false
  is_reserve (Retain list) = false
  is_reserve Clear = false
  is_reserve (Count v) = false
  is_reserve (Reserve n) = true
  is_reserve ShrinkToFit = false
  is_reserve (Limit n) = false

  -- a `ShrinkToFit` makes no larger table
  abbrev pub ShrinksSlots : {S : Type 0} → Step T → Bag T S → Bag T S → Type 0
  ShrinksSlots s before after = reserves_or_shrinks s ≡ true → is_reserve s ≡ false → length after.tables.newer ≤ length before.tables.newer

module _ {T : Type 0} (eq : T → T → Bool) where
  -- the list that X becomes by a step, in a bag with the limit `most`, and the step's reply
  abbrev pub step : ℕ → List T → Step T → List T × Reply T
  step most X (Insert v) = insert_row eq most v 1 X
  step most X (InsertMany v n) = insert_row eq most v n X
  step most X (Replace v) = replace_row eq most v X
  step most X (Remove v) = remove_row eq v X
  step most X (RemoveUpTo v q) = remove_up_to_row eq v q X
  step most X (TryTake v) = try_take_row eq v X
  step most X (TakeAll v) = take_all_row eq v X
  step most X (EntrySet v n) = entry_set_row eq most v n X
  step most X (EntryOr v q) = entry_or_row eq most v q X
  step most X (Retain list) = retain_row eq list.items X
  step most X Clear = clear_row eq X
  step most X (Count v) = count_row eq v X
  step most X (Reserve n) = reserve_row eq n X
  step most X ShrinkToFit = shrink_to_fit_row eq X
  step most X (Limit n) = limit_row eq n X

  -- the limit after a step: n if the step is `Limit n` and n isn't below the total, else the limit before
  abbrev pub limit_after : ℕ → List T → Step T → ℕ
  limit_after most X (Insert v) = most
  limit_after most X (InsertMany v n) = most
  limit_after most X (Replace v) = most
  limit_after most X (Remove v) = most
  limit_after most X (RemoveUpTo v q) = most
  limit_after most X (TryTake v) = most
  limit_after most X (TakeAll v) = most
  limit_after most X (EntrySet v n) = most
  limit_after most X (EntryOr v q) = most
  limit_after most X (Retain list) = most
  limit_after most X Clear = most
  limit_after most X (Count v) = most
  limit_after most X (Reserve n) = most
  limit_after most X ShrinkToFit = most
  limit_after most X (Limit n) = if nat_lt n (length X) then most else n

  -- the list that X becomes by steps, one after the other, in a bag with the limit `most`; and their replies
  unfoldable pub run : ℕ → List T → List (Step T) → List T × List (Reply T)
  run most X [] = (X, [])
  run most X (s ∷ steps) =
      let one = step most X s in
      let rest = run (limit_after most X s) one.0 steps in
      (rest.0, one.1 ∷ rest.1)

  -- the list that a bag's list becomes by a step, and the reply
  abbrev pub step_in : {S : Type 0} → Step T → Bag T S → List T × Reply T
  step_in s bag = step bag.most bag.items s

  -- the list that a bag's list becomes by `EntryOr v n`, and the reply
  abbrev pub entry_or_in : {S : Type 0} → T → ℕ → Bag T S → List T × Reply T
  entry_or_in v n bag = entry_or_row eq bag.most v n bag.items

  -- the limit after steps on the list X, one after the other, in a bag with the limit `most` before
  unfoldable pub limit_left : ℕ → List T → List (Step T) → ℕ
  limit_left most X [] = most
  limit_left most X (s ∷ steps) = limit_left (limit_after most X s) (step most X s).0 steps

  -- for each list that the bag meant: the appended replies are the replies of these steps on that list
  abbrev pub AppendsReplies : {S : Type 0} → Bag T S → List (Step T) → List (Reply T) → List (Reply T) → Type 0
  AppendsReplies bag steps old new = (X : List T) → Means bag X → new ≡ old ++ (run bag.most X steps).1

  -- for each list that the bag meant before: it now means the list that this list becomes by the steps
  abbrev pub LeavesRun : {S : Type 0} → Bag T S → List (Step T) → Bag T S → Type 0
  LeavesRun before steps after = (X : List T) → Means before X → Means after (run before.most X steps).0

  -- for each list that the bag meant before: it now has the limit after these steps on that list
  abbrev pub LeavesLimit : {S : Type 0} → Bag T S → List (Step T) → Bag T S → Type 0
  LeavesLimit before steps after = (X : List T) → Means before X → after.most ≡ limit_left before.most X steps

  -- the list that an empty list becomes by the steps, in a bag for which no limit is set
  abbrev pub left_by : Steps T → List T
  left_by steps = (run greatest_total [] steps).0

  -- the limit after the steps on an empty bag for which no limit is set
  abbrev pub limit_by : Steps T → ℕ
  limit_by steps = limit_left greatest_total [] steps

  -- what the steps reply on an empty bag for which no limit is set
  abbrev pub replies_to : Steps T → List (Reply T)
  replies_to steps = (run greatest_total [] steps).1

  -- the greatest number of distinct values in any list that the run passes through, X included
  unfoldable pub peak : ℕ → List T → List (Step T) → ℕ
  peak most X [] = distinct_count eq X
  peak most X (s ∷ steps) = max (distinct_count eq X) (peak (limit_after most X s) (step most X s).0 steps)

  -- whether some value occurs in Y that doesn't occur in X
  abbrev pub has_newcomer : List T → List T → Bool
  has_newcomer X Y = list_any (λ y. count eq y X == 0) Y

  -- 1 if some value occurs in Y that doesn't occur in X, else 0
  abbrev pub newcomers : List T → List T → ℕ
  newcomers X Y = if has_newcomer X Y then 1 else 0

  -- the tables of the bag have room for what occurs in Y and not in the bag
  abbrev pub HasRoomFor : {S : Type 0} → Bag T S → List T → Type 0
  HasRoomFor bag Y = newcomers bag.items Y ≤ room bag.tables

  -- how many steps of the run insert a value that was absent before the step
  unfoldable pub arrivals : ℕ → List T → List (Step T) → ℕ
  arrivals most X [] = 0
  arrivals most X (s ∷ steps) =
      let Y = (step most X s).0 in
      newcomers X Y + arrivals (limit_after most X s) Y steps

  -- no step reserves or shrinks, and the tables have room for all values that arrive in the run
  pub record IsRoomy (most : ℕ) (X : List T) (steps : List (Step T)) (tables : Tables T) : Type 0 where
    pub calls : list_any reserves_or_shrinks steps ≡ false
    pub enough : arrivals most X steps ≤ room tables

  -- P holds if no step reserves or shrinks and the bag has room for all values that arrive in the run, whichever list the bag means
  abbrev pub IfRoomy : {S : Type 0} → Bag T S → List (Step T) → Type 0 → Type 0
  IfRoomy bag steps P = (X : List T) → Means bag X → IsRoomy bag.most X steps bag.tables → P

  -- P holds if a run of these steps fails though it is roomy, as `IfRoomy` says
  abbrev pub OnRoomyErr : {S A B E : Type 0} → Bag T S → Vec (Step T) A → Result B E → Type 0 → Type 0
  OnRoomyErr bag steps result P = IfRoomy bag steps.items (OnErr result P)

  -- P holds if a run of steps on two bags fails though the run on each bag is roomy, as `IfRoomy` says
  abbrev pub OnRoomy : {S S2 A A2 B E : Type 0} → Bag T S → Vec (Step T) A → Bag T S2 → Vec (Step T) A2 → Result B E → Type 0 → Type 0
  OnRoomy bag steps bag2 steps2 result P = IfRoomy bag steps.items (IfRoomy bag2 steps2.items (OnErr result P))

  -- The tables after a run on an empty bag without slots. With no `Reserve` the greatest number of distinct values at any time (`peak`) bounds the
  -- slots. Fewer slots wait than the newer table has. With no `ShrinkToFit` either, the values that arrived (`arrivals`) bound the slots of all
  -- tables that were built.
  pub record IsBounded (most : ℕ) (steps : List (Step T)) (old new : Tables T) : Type 0 where
    pub slots : list_any is_reserve steps ≡ false → 3 * length new.newer ≤ max 48 (16 * peak most [] steps)
    pub smaller : 0 < length new.waiting → length new.waiting + 16 ≤ length new.newer
    pub built : list_any reserves_or_shrinks steps ≡ false → (b : ℕ) × (new.built ≡ old.built + b) × (3 * b ≤ 48 + 16 * arrivals most [] steps)

  -- an insertion that can fail only with `Memory`: n > 0 of a value that is absent, with a total that fits
  pub record NeedsMemory (most : ℕ) (v : T) (n : ℕ) (X : List T) : Type 0 where
    pub absent : count eq v X ≡ 0
    pub some : 0 < n
    pub fits : length X + n ≤ most

  -- there are values, and the least table that has room for them has fewer slots than the newer one
  pub record MayShrink (X : List T) (tables : Tables T) : Type 0 where
    pub some : X ≢ []
    pub smaller : (m : ℕ) → IsLeast 0 (distinct_count eq X) m → m < length tables.newer

  -- a step that may allocate: an insertion or a replacement of an absent value whose total fits; `Reserve` of more room than there is; and
  -- `ShrinkToFit` of tables that it may shrink
  abbrev pub MayAllocate : ℕ → List T → Tables T → Step T → Type 0
  MayAllocate most X tables (Insert v) = NeedsMemory most v 1 X
  MayAllocate most X tables (InsertMany v n) = NeedsMemory most v n X
  MayAllocate most X tables (Replace v) = NeedsMemory most v 1 X
  MayAllocate most X tables (Remove v) = ⊥
  MayAllocate most X tables (RemoveUpTo v q) = ⊥
  MayAllocate most X tables (TryTake v) = ⊥
  MayAllocate most X tables (TakeAll v) = ⊥
  MayAllocate most X tables (EntrySet v n) = ⊥
  MayAllocate most X tables (EntryOr v q) = NeedsMemory most v q X
  MayAllocate most X tables (Retain list) = ⊥
  MayAllocate most X tables Clear = ⊥
  MayAllocate most X tables (Count v) = ⊥
  MayAllocate most X tables (Reserve n) = room tables < n
  MayAllocate most X tables ShrinkToFit = MayShrink X tables
  MayAllocate most X tables (Limit n) = ⊥

  -- a run that a failed allocation stopped. The steps before have replies, and the bag means what they left. The next step is one that may allocate
  -- (`MayAllocate`), with the tables as it found them. Unless that step is `Reserve` or `ShrinkToFit`, room was 0
  pub record IsStoppedFrom {S : Type 0} (most : ℕ) (X : List T) (steps : List (Step T)) (before after : List (Reply T)) (bag : Bag T S) : Type 0 where
    pub done : List (Step T)
    pub stopped_at : Step T
    pub dropped : List (Step T)
    pub parts : steps ≡ done ++ stopped_at ∷ dropped
    pub replies : after ≡ before ++ (run most X done).1
    pub means : Means bag (run most X done).0
    pub limit : bag.most ≡ limit_left most X done
    pub may_allocate : MayAllocate (limit_left most X done) (run most X done).0 bag.tables stopped_at
    pub full : reserves_or_shrinks stopped_at ≡ false → room bag.tables ≡ 0
