-- What a run of steps on a bag did, and two runs on two bags, one after the other.
use Rattle.std.specs.Prelude.{◌≡◌, ◌+◌, ◌<◌, Bool, List, ◌++◌, ◌⊎◌, Vec, vec_len, vec_capacity}
use Rattle.hashbag_script.specs.declared.script.Step.{Step}
use Rattle.hashbag_script.specs.declared.script.Reply.{Reply}
use Rattle.hashbag_core.specs.Bag.{Bag, Means}
use Rattle.hashbag_script.specs.Script.{run, limit_left, IsStoppedFrom}

-- what a run of steps on a bag began with, and what it left
pub record Ran (T S : Type 0) : Type 0 where
  pub before : Bag T S
  pub after : Bag T S
  pub steps : List (Step T)
  pub replies_before : List (Reply T)
  pub replies_after : List (Reply T)

-- the run of these steps on a bag, from `before` to `after`, with the replies before it and after it
abbrev pub ran : {T S : Type 0} → Bag T S → Bag T S → List (Step T) → List (Reply T) → List (Reply T) → Ran T S
ran before after steps replies_before replies_after = record { before = before; after = after; steps = steps; replies_before = replies_before; replies_after = replies_after }

-- v must allocate to append the items of w: its capacity is less than both lengths together
abbrev pub HasNoRoom : {X Y Z W : Type 0} → Vec X Z → Vec Y W → Type 0
HasNoRoom v w = vec_capacity v < vec_len v + vec_len w

-- no step was done
pub record IsUntouched {T S : Type 0} (r : Ran T S) : Type 0 where
  pub bag : r.after ≡ r.before
  pub replies : r.replies_after ≡ r.replies_before

-- no step was done, since there was no room for the replies
abbrev pub IsNotBegun : {T S : Type 0} → Type 0 → Ran T S → Type 0
IsNotBegun NoRoom r = NoRoom × IsUntouched r

-- no step of two runs was done, since there was no room for the replies
abbrev pub IsPairNotBegun : {T S S2 : Type 0} → Type 0 → Ran T S → Ran T S2 → Type 0
IsPairNotBegun NoRoom r q = NoRoom × IsUntouched r × IsUntouched q

module _ {T : Type 0} (eq : T → T → Bool) where
  -- every step was done, from the list X on: the replies of that run were appended, and the bag means what it left
  pub record IsDoneFrom {S : Type 0} (X : List T) (r : Ran T S) : Type 0 where
    pub replies : r.replies_after ≡ r.replies_before ++ (run eq r.before.most X r.steps).1
    pub means : Means r.after (run eq r.before.most X r.steps).0
    pub limit : r.after.most ≡ limit_left eq r.before.most X r.steps

  -- every step was done, whichever list the bag meant
  abbrev pub IsDone : {S : Type 0} → Ran T S → Type 0
  IsDone r = (X : List T) → Means r.before X → IsDoneFrom X r

  -- a failed allocation stopped the run at a step, whichever list the bag meant
  abbrev pub IsStopped : {S : Type 0} → Ran T S → Type 0
  IsStopped r = (X : List T) → Means r.before X → IsStoppedFrom eq r.before.most X r.steps r.replies_before r.replies_after r.after

  -- a failed allocation stopped the run: before the first step, since there was no room for the replies; or at a step
  abbrev pub IsNotBegunOrStopped : {S : Type 0} → Type 0 → Ran T S → Type 0
  IsNotBegunOrStopped NoRoom r = IsNotBegun NoRoom r ⊎ IsStopped r

  -- a failed allocation stopped the runs of two bags: before the first step, since there was no room for the replies; or in the first
  -- run, and the second bag is untouched; or in the second run, and the first was done
  abbrev pub IsPairNotBegunOrStopped : {S S2 : Type 0} → Type 0 → Ran T S → Ran T S2 → Type 0
  IsPairNotBegunOrStopped NoRoom r q = IsPairNotBegun NoRoom r q ⊎ ((IsStopped r × IsUntouched q) ⊎ (IsDone r × IsStopped q))

  -- a failed allocation stopped the runs of two bags; or both were done, and a failed allocation stopped what comes after them
  abbrev pub IsPairStoppedOrRest : {S S2 : Type 0} → Type 0 → Ran T S → Ran T S2 → Type 0
  IsPairStoppedOrRest NoRoom r q = IsPairNotBegunOrStopped NoRoom r q ⊎ (IsDone r × IsDone q)

-- ---- of bags and of `Vec`s: before and after a call

-- the allocation for the replies failed, and no step was done
abbrev pub IsUnbegunRun : {T S A B : Type 0} → Bag T S → Bag T S → Vec (Step T) A → Vec (Reply T) B → Vec (Reply T) B → Type 0
IsUnbegunRun before after steps old new = IsNotBegun (HasNoRoom old steps) (ran before after steps.items old.items new.items)

-- the replies of one of two runs have no room for a reply to each of its steps
abbrev pub LackRoom : {T A A2 B B2 : Type 0} → Vec (Reply T) B → Vec (Step T) A → Vec (Reply T) B2 → Vec (Step T) A2 → Type 0
LackRoom replies steps replies2 steps2 = HasNoRoom replies steps ⊎ HasNoRoom replies2 steps2

-- a bag and its replies are as they were
abbrev pub Stays : {T S B : Type 0} → Bag T S → Bag T S → Vec (Reply T) B → Vec (Reply T) B → Type 0
Stays before after old new = (after ≡ before) × (new.items ≡ old.items)

module _ {T : Type 0} (eq : T → T → Bool) where
  -- a failed allocation stopped a run: the allocation for the replies, or one in a step
  abbrev pub IsStoppedRun : {S A B : Type 0} → Bag T S → Bag T S → Vec (Step T) A → Vec (Reply T) B → Vec (Reply T) B → Type 0
  IsStoppedRun before after steps old new = IsNotBegunOrStopped eq (HasNoRoom old steps) (ran before after steps.items old.items new.items)

  -- a failed allocation stopped two runs, one after the other: one for the replies, or one in a step of the first run or of the second
  abbrev pub AreStoppedRuns : {S S2 A A2 B B2 : Type 0} → Bag T S → Bag T S → Vec (Step T) A → Vec (Reply T) B → Vec (Reply T) B → Bag T S2 → Bag T S2 → Vec (Step T) A2 → Vec (Reply T) B2 → Vec (Reply T) B2 → Type 0
  AreStoppedRuns before after steps old new before2 after2 steps2 old2 new2 = IsPairNotBegunOrStopped eq (LackRoom old steps old2 steps2) (ran before after steps.items old.items new.items) (ran before2 after2 steps2.items old2.items new2.items)

  -- a failed allocation stopped two runs as `AreStoppedRuns` says, or stopped what comes after both
  abbrev pub AreStoppedRunsOrRest : {S S2 A A2 B B2 : Type 0} → Bag T S → Bag T S → Vec (Step T) A → Vec (Reply T) B → Vec (Reply T) B → Bag T S2 → Bag T S2 → Vec (Step T) A2 → Vec (Reply T) B2 → Vec (Reply T) B2 → Type 0
  AreStoppedRunsOrRest before after steps old new before2 after2 steps2 old2 new2 = IsPairStoppedOrRest eq (LackRoom old steps old2 steps2) (ran before after steps.items old.items new.items) (ran before2 after2 steps2.items old2.items new2.items)
