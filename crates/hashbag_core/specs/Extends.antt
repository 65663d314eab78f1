-- Which pair is inserted for each item, and why an insertion may fail. `Inserts` says what insertions leave.
use Rattle.std.specs.Prelude.{◌≡◌, ℕ, ◌+◌, ◌<◌, ◌≤◌, Bool, List, [], ◌∷◌, length, Result, Ok, Err}
use denote.Ref.{Bor}
use Rattle.hashbag_core.specs.declared.bag.BagError.{BagError}
use Rattle.hashbag_core.specs.declared.bag.BagError.TheVariants.{Memory, TooMany, BelowTotal}
use Rattle.hashbag_core.specs.Occurrences.{count, add}

-- the pair of a value and a number that is inserted for a value x: x, once
abbrev pub Once : {T : Type 0} → T → T × ℕ → Type 0
Once x p = p ≡ (x, 1)

-- the pair of a value and a number that is inserted for a pair: the pair as it is
abbrev pub AsItIs : {T : Type 0} → T × ℕ → T × ℕ → Type 0
AsItIs e p = p ≡ e

-- the pair that is inserted for a result: its value, once. No pair is inserted for an error
abbrev pub OkOnce : {T E : Type 0} → Result T E → T × ℕ → Type 0
OkOnce (Ok x) p = p ≡ (x, 1)
OkOnce (Err e) p = ⊥

-- the pair that is inserted for a lent value: a clone of it, once
abbrev pub CloneOnce : {T : Type 0} → (T → T → Type 0) → Bor T → T × ℕ → Type 0
CloneOnce is_clone x p = is_clone x.now p.0 × (p.1 ≡ 1)

-- the pair that is inserted for a pair whose value is lent: a clone of the value, and the number. If the number is 0, nothing is cloned, and the
-- value of the inserted pair doesn't matter
abbrev pub CloneAsOften : {T : Type 0} → (T → T → Type 0) → Bor T × ℕ → T × ℕ → Type 0
CloneAsOften is_clone e p = (0 < e.1 → is_clone e.0.now p.0) × (p.1 ≡ e.1)

-- inserting n clones in a bag that means X may fail with this error: the total would pass its limit `most`, or else an allocation fails
abbrev pub MayFailWithClones : {T : Type 0} → ℕ → List T → ℕ → BagError → Type 0
MayFailWithClones most X n TooMany = most < length X + n
MayFailWithClones most X n Memory = (length X + n ≤ most) × (0 < n)
MayFailWithClones most X n BelowTotal = ⊥

module _ {T : Type 0} (eq : T → T → Bool) where
  -- X with each value added in turn, as often as its number says
  abbrev pub add_all : List T → List (T × ℕ) → List T
  add_all X [] = X
  add_all X (p ∷ pairs) = add_all (add eq p.0 p.1 X) pairs

  -- inserting n of v in a bag that means X may fail with this error: the total would pass its limit `most`, or v is absent and an
  -- allocation fails
  abbrev pub MayFailWith : ℕ → List T → T → ℕ → BagError → Type 0
  MayFailWith most X v n TooMany = most < length X + n
  MayFailWith most X v n Memory = (length X + n ≤ most) × (0 < n) × (count eq v X ≡ 0)
  MayFailWith most X v n BelowTotal = ⊥
