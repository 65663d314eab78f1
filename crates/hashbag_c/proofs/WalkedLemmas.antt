-- The front of a queue of pairs, which is the front of what is left of a walk.
use Rattle.std.proofs.Common.{◌≡◌, ℕ, ◌<◌, ◌≤◌, List, [], ◌∷◌, ◌++◌, length, drop, get_or, refl, sym, ◌∙◌, ap, arith}
use Rattle.std.proofs.lemmas.List.{append-nil, append_assoc, length-drop}

-- what is lent at the front is first
pub first_of : {X : Type 0} (L : List X) (x : X) → 0 < length L → x ≡ get_or L 0 x → L ≡ x ∷ drop 1 L
first_of [] x some is = absurd (omega arith)
first_of (y ∷ L) x some is = ap (λ z. z ∷ L) (sym is)

-- if no more is left after i items, there are no more than i
pub none_more : {X : Type 0} (W L : List X) (i : ℕ) → L ≡ drop i W → length L ≡ 0 → length W ≤ i
none_more {X} W L i left none =
    let all = length-drop i W in let long : length L ≡ length (drop i W) = ap (λ (l : List X). length l) left in omega arith

-- the next item of a walk goes from what is left to the end of a list
pub one_more : {X : Type 0} (L walk rest : List X) (x : X) → walk ≡ x ∷ rest → (L ++ (x ∷ [])) ++ rest ≡ L ++ walk
one_more {X} L walk rest x is = append_assoc L (x ∷ []) rest ∙ ap (λ (l : List X). L ++ l) (sym is)

-- at the end of a walk the list has all of it
pub all_of : {X : Type 0} (L walk W : List X) → walk ≡ [] → L ++ walk ≡ W → L ≡ W
all_of {X} L walk W none together = sym (append-nil L) ∙ ap (λ (l : List X). L ++ l) (sym none) ∙ together

-- a list without items
pub none_of : {X : Type 0} (L : List X) → length L ≡ 0 → L ≡ []
none_of [] none = refl
none_of (x ∷ L) none = absurd (omega arith)
