-- What the clauses of exports say of a handle.
use Rattle.std.specs.Prelude.{◌≡◌, ℕ, Bool, List, nat_eq, Option, None, Some}
use Rattle.std.specs.Str.{bytes_eq}
use Rattle.hashbag_core.specs.Bag.{Bag}
use Rattle.hashbag_core.specs.Occurrences.{count_named}
use Rattle.hashbag_c.specs.declared.any.TheConstants.{EMPTY, KIND}
use Rattle.hashbag_c.specs.declared.state.Keys.{Keys}
use Rattle.hashbag_c.specs.declared.state.State.{State}
use Rattle.hashbag_c.specs.declared.held.Held.{Held}
use Rattle.hashbag_c.specs.declared.held.Held.TheVariants.{Numbers, Texts}

-- a handle has a bag of numbers for which P holds
abbrev pub HasNumbers : Option Held → (Bag ℕ State → Type 0) → Type 0
HasNumbers None P = ⊥
HasNumbers (Some (Numbers bag)) P = P bag
HasNumbers (Some (Texts bag)) P = ⊥

-- if a handle has a bag of numbers, P holds for it
abbrev pub IfNumbers : Option Held → (Bag ℕ State → Type 0) → Type 0
IfNumbers None P = Unit {0}
IfNumbers (Some (Numbers bag)) P = P bag
IfNumbers (Some (Texts bag)) P = Unit {0}

-- if a handle has a bag of numbers, and a call on it returned 0, P holds for the bag
abbrev pub OnNumbers : ℕ → Option Held → (Bag ℕ State → Type 0) → Type 0
OnNumbers result held P = IfNumbers held (λ bag. result ≡ 0 → P bag)

-- if `held` is a bag of numbers, `after` is one too, and P holds of both
abbrev pub NumbersTo : Option Held → Option Held → (Bag ℕ State → Bag ℕ State → Type 0) → Type 0
NumbersTo held after P = IfNumbers held (λ bag. HasNumbers after (P bag))

-- if both handles have bags of numbers, P holds for these
abbrev pub BothNumbers : Option Held → Option Held → (Bag ℕ State → Bag ℕ State → Type 0) → Type 0
BothNumbers a b P = IfNumbers a (λ x. IfNumbers b (λ y. P x y))

-- if `held` is no bag of numbers, P holds of the number that says why: `EMPTY` if there is no bag, `KIND` if it is one of byte strings
abbrev pub UnlessNumbers : Option Held → (ℕ → Type 0) → Type 0
UnlessNumbers None P = P EMPTY
UnlessNumbers (Some (Numbers bag)) P = Unit {0}
UnlessNumbers (Some (Texts bag)) P = P KIND

-- if `a` or `b` is no bag of numbers, P holds
abbrev pub UnlessBothNumbers : Option Held → Option Held → Type 0 → Type 0
UnlessBothNumbers a b P = UnlessNumbers a (λ _. P) × UnlessNumbers b (λ _. P)

-- a handle has a bag of byte strings for which P holds
abbrev pub HasTexts : Option Held → (Bag (List ℕ) Keys → Type 0) → Type 0
HasTexts None P = ⊥
HasTexts (Some (Numbers bag)) P = ⊥
HasTexts (Some (Texts bag)) P = P bag

-- if a handle has a bag of byte strings, P holds for it
abbrev pub IfTexts : Option Held → (Bag (List ℕ) Keys → Type 0) → Type 0
IfTexts None P = Unit {0}
IfTexts (Some (Numbers bag)) P = Unit {0}
IfTexts (Some (Texts bag)) P = P bag

-- if a handle has a bag of byte strings, and a call on it returned 0, P holds for the bag
abbrev pub OnTexts : ℕ → Option Held → (Bag (List ℕ) Keys → Type 0) → Type 0
OnTexts result held P = IfTexts held (λ bag. result ≡ 0 → P bag)

-- if `held` is a bag of byte strings, `after` is one too, and P holds of both
abbrev pub TextsTo : Option Held → Option Held → (Bag (List ℕ) Keys → Bag (List ℕ) Keys → Type 0) → Type 0
TextsTo held after P = IfTexts held (λ bag. HasTexts after (P bag))

-- if both handles have bags of byte strings, P holds for these
abbrev pub BothTexts : Option Held → Option Held → (Bag (List ℕ) Keys → Bag (List ℕ) Keys → Type 0) → Type 0
BothTexts a b P = IfTexts a (λ x. IfTexts b (λ y. P x y))

-- the test for the byte string that has these bytes
abbrev pub named : List ℕ → List ℕ → Bool
named bytes = λ v. bytes_eq v bytes

-- how often the byte string that has these bytes occurs
abbrev pub occurs : List ℕ → Bag (List ℕ) Keys → ℕ
occurs bytes bag = count_named (named bytes) bag.items

-- if `held` is no bag of byte strings, P holds of the number that says why: `EMPTY` if there is no bag, `KIND` if it is one of numbers
abbrev pub UnlessTexts : Option Held → (ℕ → Type 0) → Type 0
UnlessTexts None P = P EMPTY
UnlessTexts (Some (Numbers bag)) P = P KIND
UnlessTexts (Some (Texts bag)) P = Unit {0}

-- if `a` or `b` is no bag of byte strings, P holds
abbrev pub UnlessBothTexts : Option Held → Option Held → Type 0 → Type 0
UnlessBothTexts a b P = UnlessTexts a (λ _. P) × UnlessTexts b (λ _. P)

-- a fact about a bag of either kind. It takes the type of the values, the type of the hash state, the equality of values, and the bag
abbrev pub OfBag : Type 1
OfBag = (T S : Type 0) → (T → T → Bool) → Bag T S → Type 0

abbrev pub OfTwo : Type 1
OfTwo = (T S : Type 0) → (T → T → Bool) → Bag T S → Bag T S → Type 0

-- if a handle has a bag, P holds for it
abbrev pub IfBag : Option Held → OfBag → Type 0
IfBag None P = Unit {0}
IfBag (Some (Numbers bag)) P = P ℕ State nat_eq bag
IfBag (Some (Texts bag)) P = P (List ℕ) Keys bytes_eq bag

-- if `held` is a bag, `after` is one of the same kind, and P holds of both
abbrev pub BagTo : Option Held → Option Held → OfTwo → Type 0
BagTo held after P = NumbersTo held after (P ℕ State nat_eq) × TextsTo held after (P (List ℕ) Keys bytes_eq)

-- if both handles have bags of one kind, P holds for these
abbrev pub BothBags : Option Held → Option Held → OfTwo → Type 0
BothBags a b P = BothNumbers a b (P ℕ State nat_eq) × BothTexts a b (P (List ℕ) Keys bytes_eq)

-- if both handles have bags, of different kinds, P holds
abbrev pub IfOtherKinds : Option Held → Option Held → Type 0 → Type 0
IfOtherKinds a b P = IfNumbers a (λ _. IfTexts b (λ _. P)) × IfTexts a (λ _. IfNumbers b (λ _. P))
