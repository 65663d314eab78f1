-- Lists that combine the counts of two bags.
use Rattle.std.specs.Prelude.{◌≡◌, ℕ, ◌+◌, max, min, Bool, List, length}
use Rattle.hashbag_core.specs.Bag.{Bag}
use Rattle.hashbag_core.specs.Occurrences.{count}

-- Z is the union of X and Y: of each value it has the greater of both counts
abbrev pub IsUnion : {T : Type 0} → (T → T → Bool) → List T → List T → List T → Type 0
IsUnion {T} eq X Y Z = (v : T) → count eq v Z ≡ max (count eq v X) (count eq v Y)

-- P holds of the total of the union of two bags: of the length of any list that is their union, since all of these are equally long
abbrev pub IfUnion : {T S S2 : Type 0} → (T → T → Bool) → Bag T S → Bag T S2 → (ℕ → Type 0) → Type 0
IfUnion {T} eq a b P = (Z : List T) → IsUnion eq a.items b.items Z → P (length Z)

-- Z is the sum of X and Y: of each value it has both counts together
abbrev pub IsSumOf : {T : Type 0} → (T → T → Bool) → List T → List T → List T → Type 0
IsSumOf {T} eq X Y Z = (v : T) → count eq v Z ≡ count eq v X + count eq v Y

-- Z is the intersection of X and Y: of each value it has the lesser of both counts
abbrev pub IsIntersection : {T : Type 0} → (T → T → Bool) → List T → List T → List T → Type 0
IsIntersection {T} eq X Y Z = (v : T) → count eq v Z ≡ min (count eq v X) (count eq v Y)
