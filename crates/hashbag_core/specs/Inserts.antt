-- How one insertion changes a whole bag, and how insertions in turn change it.
use Rattle.std.specs.Prelude.{◌≡◌, ℕ, ◌+◌, ◌<◌, ◌≤◌, ◌⊎◌, Bool, List, [], ◌∷◌, length, Option, Some, Result, Ok, Err}
use denote.Ref.{Bor}
use Rattle.std.specs.List.{AllZip}
use Rattle.std.specs.Iterator.{Drains, YieldsThen}
use Rattle.hashbag_table.specs.Tables.{room, Arrives, KeepsRoom}
use Rattle.hashbag_core.specs.declared.bag.BagError.{BagError}
use Rattle.hashbag_core.specs.declared.bag.BagError.TheVariants.{Memory}
use Rattle.hashbag_core.specs.declared.bag.extends.TryExtendError.{TryExtendError}
use Rattle.hashbag_core.specs.declared.bag.extends.TryExtendError.TheVariants.{Item, Insertion}
use Rattle.hashbag_core.specs.Bag.{Bag, IsBagOf, HasOneValueMore, limited}
use Rattle.hashbag_core.specs.Extends.{CloneOnce, CloneAsOften, MayFailWith, MayFailWithClones}
use Rattle.hashbag_core.specs.Held.{AreHeld, Recounts, StoresOver, no_slots_after_building}
use Rattle.hashbag_core.specs.Occurrences.{greatest_total, count, add, put, distinct_count, IsBag}

-- an empty bag of no slots under this state, for which no limit is set
abbrev pub empty_bag : {T S : Type 0} → S → Bag T S
empty_bag hasher = record { items = []; hasher = hasher; tables = no_slots_after_building 0; most = greatest_total }

module _ {T S : Type 0} (eq : T → T → Bool) where
  -- the insertion of n of v turned `before` into `after`. `added`, `none`, `len`: the list and its length. `set_len`, `same_set`, `new_set`: how many
  -- distinct values. `arrives`, `slot`: the slots, if v was absent and if it was present. `less_room`, `same_room`: how many slots, and how much
  -- room. `held`: the slots hold the list
  pub record Inserts (v : T) (n : ℕ) (before after : Bag T S) : Type 0 where
    pub added : IsBagOf eq before (add eq v n before.items) after
    pub none : n ≡ 0 → after ≡ before
    pub len : length after.items ≡ length before.items + n
    pub set_len : distinct_count eq after.items ≤ distinct_count eq before.items + 1
    pub same_set : 0 < count eq v before.items → distinct_count eq after.items ≡ distinct_count eq before.items
    pub new_set : 0 < n → count eq v before.items ≡ 0 → distinct_count eq after.items ≡ distinct_count eq before.items + 1
    pub arrives : 0 < n → count eq v before.items ≡ 0 → Arrives before.tables after.tables
    pub slot : 0 < n → 0 < count eq v before.items → Recounts eq v (count eq v before.items + n) before.tables after.tables
    pub less_room : 0 < room before.tables → KeepsRoom 1 before.tables after.tables
    pub same_room : 0 < count eq v before.items → KeepsRoom 0 before.tables after.tables
    pub held : 0 < n → AreHeld eq after.items after.tables

  -- v itself, once, replaced all items of `before` that are equal to v. That turned `before` into `after`. The fields are like the fields of
  -- `Inserts`; `stored` is like `added`
  pub record Replaces (v : T) (before after : Bag T S) : Type 0 where
    pub stored : IsBagOf eq before (put eq v 1 before.items) after
    pub len : length after.items + count eq v before.items ≡ length before.items + 1
    pub new_set : count eq v before.items ≡ 0 → HasOneValueMore eq before after
    pub arrives : count eq v before.items ≡ 0 → Arrives before.tables after.tables
    pub slot : 0 < count eq v before.items → StoresOver eq v before.tables after.tables
    pub less_room : 0 < room before.tables → KeepsRoom 1 before.tables after.tables
    pub same_room : 0 < count eq v before.items → KeepsRoom 0 before.tables after.tables

  -- why an insertion of n of v may fail. `TooMany`: the total would pass the limit. `Memory`: it fits, n isn't 0, v is absent, and there is
  -- no room (`full`)
  pub record MayFail (bag : Bag T S) (v : T) (n : ℕ) (e : BagError) : Type 0 where
    pub why : MayFailWith eq bag.most bag.items v n e
    pub full : e ≡ Memory → room bag.tables ≡ 0

  -- these pairs were inserted into `before` one after the other, each value as often as its number says, which left `after`
  abbrev pub InTurn : List (T × ℕ) → Bag T S → Bag T S → Type 0
  InTurn [] before after = after ≡ before
  InTurn (p ∷ pairs) before after = (middle : Bag T S) × Inserts p.0 p.1 before middle × InTurn pairs middle after

  -- inserting these pairs one after the other into an empty bag without slots, which has the state and the limit of `bag`, leads to `bag`
  abbrev pub IsMadeOf : List (T × ℕ) → Bag T S → Type 0
  IsMadeOf pairs bag = InTurn pairs (limited bag.most (empty_bag bag.hasher)) bag

  module _ {I A : Type 0} (steps : I → Option A → I → Type 0) (Goes : A → T × ℕ → Type 0) where
    -- all items that an iterator gave (`yielded`) were inserted one after the other, each as a pair (`as_pairs`)
    pub record InsertsAll (it : I) (before after : Bag T S) : Type 0 where
      pub bag : IsBag eq before.most before.items
      pub items : List A
      pub yielded : Drains steps it items
      pub pairs : List (T × ℕ)
      pub as_pairs : AllZip Goes items pairs
      pub turn : InTurn pairs before after

    -- the items before the item `failed` were inserted in turn, and this item failed in the bag that they left
    pub record InsertsUpTo {X : Type 0} (Why : Bag T S → A → X → Type 0) (it : I) (before after : Bag T S) (e : X) : Type 0 where
      pub bag : IsBag eq before.most before.items
      pub items : List A
      pub failed : A
      pub rest : I
      pub yielded : YieldsThen steps it items (Some failed) rest
      pub pairs : List (T × ℕ)
      pub as_pairs : AllZip Goes items pairs
      pub turn : InTurn pairs before after
      pub why : Why after failed e

  -- inserting a value once may fail with e
  abbrev pub MayFailOne : Bag T S → T → BagError → Type 0
  MayFailOne bag v e = MayFail bag v 1 e

  -- inserting a value as often as its count says may fail with e
  abbrev pub MayFailPair : Bag T S → T × ℕ → BagError → Type 0
  MayFailPair bag p e = MayFail bag p.0 p.1 e

  -- an extend by results may stop at this result: at `Err x` with `Item x`, at `Ok v` with an error of inserting v once
  abbrev pub EndsTry : {E : Type 0} → Bag T S → Result T E → TryExtendError E → Type 0
  EndsTry bag (Err x) (Item e) = e ≡ x
  EndsTry bag (Err x) (Insertion e) = ⊥
  EndsTry bag (Ok v) (Item e) = ⊥
  EndsTry bag (Ok v) (Insertion e) = MayFailOne bag v e

  module _ (is_clone : T → T → Type 0) (is_infallible : T → Type 0) where
    -- inserting n clones of v may fail with e: with `Memory` only if cloning v may fail, or if inserting n of a clone may
    pub record MayFailCloning (bag : Bag T S) (v : T) (n : ℕ) (e : BagError) : Type 0 where
      pub why : MayFailWithClones bag.most bag.items n e
      pub memory : e ≡ Memory → (¬ (is_infallible v)) ⊎ ((x : T) × is_clone v x × MayFail bag x n e)

    module _ {I : Type 0} where
      -- clones of lent values were inserted in turn, up to one that failed
      abbrev pub ClonesUpTo : (I → Option (Bor T) → I → Type 0) → I → Bag T S → Bag T S → BagError → Type 0
      ClonesUpTo steps it before after e = InsertsUpTo steps (CloneOnce is_clone) (λ bag v e. MayFailCloning bag v.now 1 e) it before after e

      -- clones of lent values were inserted in turn, each as often as its count says, up to one that failed
      abbrev pub ClonesManyUpTo : (I → Option (Bor T × ℕ) → I → Type 0) → I → Bag T S → Bag T S → BagError → Type 0
      ClonesManyUpTo steps it before after e = InsertsUpTo steps (CloneAsOften is_clone) (λ bag p e. MayFailCloning bag p.0.now p.1 e) it before after e

module _ {T : Type 0} (S : Type 0) (eq : T → T → Bool) where
  -- the items before one that failed were inserted in turn into an empty bag without slots, under some state of the type S. They left a bag, in which
  -- the next item of the iterator failed with e
  abbrev pub StopsBuilding : {A I X : Type 0} → (I → Option A → I → Type 0) → (A → T × ℕ → Type 0) → (Bag T S → A → X → Type 0) → I → X → Type 0
  StopsBuilding steps Goes Why it e = (bag : Bag T S) × InsertsUpTo eq steps Goes Why it (empty_bag bag.hasher) bag e
