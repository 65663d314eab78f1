-- Movements of a stock. A stock is a function: for each article how many there are.
use Rattle.std.specs.Prelude.{◌≡◌, ℕ, ◌+◌, ◌-◌, ◌<◌, ◌≤◌, if◌then◌else◌, nat_lt, Bool, List, [], ◌∷◌, ◌++◌, length, sum_by, take}
use Rattle.hashbag_core.specs.Bag.{Bag}
use Rattle.hashbag_core.specs.Occurrences.{count}
use Rattle.hashbag_ledger_lib.specs.declared.movements.Change.{Change}
use Rattle.hashbag_ledger_lib.specs.declared.movements.Change.TheVariants.{In, Out}
use Rattle.hashbag_ledger_lib.specs.declared.movements.Movement.{Movement}
use Rattle.hashbag_ledger_lib.specs.declared.movements.Place.{Place}
use Rattle.hashbag_ledger_lib.specs.declared.movements.Refusal.{Refusal}

-- how many a change brings in
abbrev pub coming : Change → ℕ
coming (In n) = n
coming (Out n) = 0

-- how many a change takes out
abbrev pub going : Change → ℕ
going (In n) = 0
going (Out n) = n

-- how many of all articles there are after these movements, if `total` were there before
abbrev pub total_after : {T : Type 0} → ℕ → List (Movement T) → ℕ
total_after total entered = total + sum_by (λ m. coming m.change) entered - sum_by (λ m. going m.change) entered

module _ {T : Type 0} (eq : T → T → Bool) where
  -- the stock that has the items X
  abbrev pub stock_of : List T → T → ℕ
  stock_of X v = count eq v X

  -- the movement m takes out no more than is there, and changes the number of its article alone
  pub record ChangesStock (m : Movement T) (before after : T → ℕ) : Type 0 where
    pub enough : going m.change ≤ before m.article
    pub counts : (v : T) → after v + (if eq v m.article then going m.change else 0) ≡ before v + (if eq v m.article then coming m.change else 0)

  -- the same, for stocks that have these items
  abbrev pub ChangesItems : Movement T → List T → List T → Type 0
  ChangesItems m before after = ChangesStock m (stock_of before) (stock_of after)

  -- the movement m would take out more than is there, and r is its refusal, with how many there are
  pub record RefusesMovement (m : Movement T) (before : T → ℕ) (r : Refusal T) : Type 0 where
    pub too_much : before m.article < going m.change
    pub is : r ≡ record { place = m.place; article = m.article; asked = going m.change; there = before m.article }

  -- how many of v these movements bring in, in all
  abbrev pub came : T → List (Movement T) → ℕ
  came v ms = sum_by (λ m. if eq v m.article then coming m.change else 0) ms

  -- how many of v these movements take out, in all
  abbrev pub went : T → List (Movement T) → ℕ
  went v ms = sum_by (λ m. if eq v m.article then going m.change else 0) ms

  module _ (start : T → ℕ) where
    -- how many of v there are after the movements `entered`
    abbrev pub there : List (Movement T) → T → ℕ
    there entered v = start v + came v entered - went v entered

    -- whether the movement m, after the movements `entered`, would take out more than is there
    abbrev pub asks_too_much : List (Movement T) → Movement T → Bool
    asks_too_much entered m = nat_lt (there entered m.article) (going m.change)

    -- `entered`, and then the movements of ms that are entered after these
    abbrev pub entered_after : List (Movement T) → List (Movement T) → List (Movement T)
    entered_after entered [] = entered
    entered_after entered (m ∷ ms) = entered_after (if asks_too_much entered m then entered else entered ++ m ∷ []) ms

    -- the refusal of the movement m after `entered`, with how many there are
    abbrev pub refusal : List (Movement T) → Movement T → Refusal T
    refusal entered m = record { place = m.place; article = m.article; asked = going m.change; there = there entered m.article }

    -- the refusals among ms, after `entered` were entered
    abbrev pub refused_after : List (Movement T) → List (Movement T) → List (Refusal T)
    refused_after entered [] = []
    refused_after entered (m ∷ ms) = if asks_too_much entered m then refusal entered m ∷ refused_after entered ms else refused_after (entered ++ m ∷ []) ms

    -- the movements of ms that are entered
    abbrev pub entered_of : List (Movement T) → List (Movement T)
    entered_of ms = entered_after [] ms

    -- the refusals among ms
    abbrev pub refused_of : List (Movement T) → List (Refusal T)
    refused_of ms = refused_after [] ms

    -- the stock after the movements ms
    abbrev pub in_the_end : List (Movement T) → T → ℕ
    in_the_end ms = there (entered_of ms)

    -- for each k, after the first k entered movements: what went out of an article is at most what was there at first, plus what came in
    abbrev pub IsNeverBelowZero : List (Movement T) → Type 0
    IsNeverBelowZero entered = (k : ℕ) (v : T) → went v (take k entered) ≤ start v + came v (take k entered)

    -- `end` is the stock after these movements: for each article, start + in = end + out
    pub record Leaves (ms : List (Movement T)) (end : T → ℕ) : Type 0 where
      pub counts : (v : T) → end v ≡ in_the_end ms v
      pub conserved : (v : T) → start v + came v (entered_of ms) ≡ end v + went v (entered_of ms)
      pub never_below_zero : IsNeverBelowZero (entered_of ms)

    -- the movement at this place would make the total, which was `total` at first, pass `most`
    pub record IsPast (total most : ℕ) (ms : List (Movement T)) (place : Place) : Type 0 where
      pub before : List (Movement T)
      pub movement : Movement T
      pub later : List (Movement T)
      pub in_turn : before ++ movement ∷ later ≡ ms
      pub at_place : place ≡ movement.place
      pub over : most < total_after total (entered_of before) + coming movement.change

-- with a movement, the total of the stock would pass its limit
abbrev pub PassesLimitWith : {T S : Type 0} → Bag T S → Movement T → Type 0
PassesLimitWith stock m = stock.most < length stock.items + coming m.change

-- the total rises by what comes in, and falls by what goes out
abbrev pub ChangesTotal : {T : Type 0} → Change → List T → List T → Type 0
ChangesTotal change old new = length new + going change ≡ length old + coming change
