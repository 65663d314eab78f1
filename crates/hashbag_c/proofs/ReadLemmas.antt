-- A walk that is written into an array, item by item.
use Rattle.std.proofs.Common.{◌≡◌, ℕ, ◌+◌, ◌<◌, ◌≤◌, List, [], ◌∷◌, ◌++◌, length, take, drop, map, set, sym, ◌∙◌, ap, arith}
use Rattle.std.proofs.lemmas.List.{length-drop, take_more, take_more_set, drop_more, map-append}

module _ {A : Type 0} (W rest : List A) (i : ℕ) (x : A) (left : drop i W ≡ x ∷ rest) where
  -- of the list W, what is left after i items begins with x
  pub is_within : i < length W
  is_within = let all = length-drop i W in let some : length (drop i W) ≡ length (x ∷ rest) = ap (λ (l : List A). length l) left in omega arith

  pub left_after : drop (i + 1) W ≡ rest
  left_after = let more = drop_more W i x is_within in cc

  pub taken_after : take (i + 1) W ≡ take i W ++ (x ∷ [])
  taken_after = let more = take_more W i x is_within in let first = drop_more W i x is_within in cc

  -- the array xs has what f makes of the first i items, and then of x too
  pub written_after : {B : Type 0} (f : A → B) (xs : List B) → i < length xs → take i xs ≡ map f (take i W) → take (i + 1) (set xs i (f x)) ≡ map f (take (i + 1) W)
  written_after {B} f xs below same =
      take_more_set xs i (f x) below ∙ ap (λ (l : List B). l ++ (f x ∷ [])) same ∙ sym (map-append f (take i W) (x ∷ []))
      ∙ ap (λ (l : List A). map f l) (sym taken_after)

-- if nothing is left after i items, there are no more than i
pub none_left : {A : Type 0} (W : List A) (i : ℕ) → drop i W ≡ [] → length W ≤ i
none_left {A} W i none = let all = length-drop i W in let here : length (drop i W) ≡ 0 = ap (λ (l : List A). length l) none in omega arith
