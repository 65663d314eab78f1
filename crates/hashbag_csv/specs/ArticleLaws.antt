-- Two articles are equal exactly if the bytes of their fields are equal.
use Rattle.std.proofs.Common.{◌≡◌, ◌&&◌, Bool, true, false, List, [], ◌∷◌, map, String, Global, refl, ap}
use Rattle.std.specs.Cmp.Lexicographic.{pointwise}
use Rattle.std.specs.Str.{bytes_eq}
use Rattle.std.specs.String.{string_bytes, string_eq}

and_true : (b : Bool) → b ≡ b && true
and_true true = refl
and_true false = refl

pub one_same : (x y : String Global) → string_eq x y ≡ pointwise bytes_eq (string_bytes x ∷ []) (string_bytes y ∷ [])
one_same x y = and_true (string_eq x y)

pub all_same : (xs ys : List (String Global)) → pointwise string_eq xs ys ≡ pointwise bytes_eq (map string_bytes xs) (map string_bytes ys)
all_same [] [] = refl
all_same [] (y ∷ ys) = refl
all_same (x ∷ xs) [] = refl
all_same (x ∷ xs) (y ∷ ys) = ap (λ (b : Bool). string_eq x y && b) (all_same xs ys)
