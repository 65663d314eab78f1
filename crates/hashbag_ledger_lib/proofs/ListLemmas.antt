-- Two lists with the same elements at the same places, and what a look at a place gives.
use Rattle.std.proofs.Common.{◌≡◌, ℕ, ◌<◌, ◌≤◌, ◌+◌, ◌++◌, suc, List, [], ◌∷◌, length, map, Option, Some, None, IsNone, slice_get, Bor, inl, inr, refl, sym, ◌∙◌, ap, arith, ◌≢◌}
use Rattle.std.proofs.lemmas.Bool.{cases_lt}
use Rattle.std.specs.Option.{option_copied, option_map}
use Rattle.std.specs.Slice.{IsItemAt}
use Rattle.std.proofs.lemmas.List.{append_assoc, append-nil, nil_from_length}
use Rattle.std.proofs.lemmas.Option.{slice_get_past, slice_get_read, slice_get-map}

-- an element is itself wherever it is
some_same : {X : Type 0} (x y : X) → Some x ≡ Some y → x ≡ y
some_same x y h = cc

pub same_if_same_at : {X : Type 0} (A B : List X) → ((k : ℕ) → slice_get A k ≡ slice_get B k) → A ≡ B
same_if_same_at [] [] h = refl
same_if_same_at [] (y ∷ B) h = let none = h 0 in cc
same_if_same_at (x ∷ A) [] h = let none = h 0 in cc
same_if_same_at (x ∷ A) (y ∷ B) h =
    let first : x ≡ y = some_same x y (h 0) in
    let rest : A ≡ B = same_if_same_at A B (λ k. h (suc k)) in
    λ i. first i ∷ rest i

-- it is enough to look at the places of the longer list
pub same_if_same_below : {X : Type 0} (A B : List X) (n : ℕ) → length A ≤ n → length B ≤ n → ((k : ℕ) → k < n → slice_get A k ≡ slice_get B k) → A ≡ B
same_if_same_below A B n few fewer h = same_if_same_at A B (λ k. elim (cases_lt k n) [
  | inl below ↦ h k below
  | inr past ↦ slice_get_past A k (omega arith) ∙ sym (slice_get_past B k (omega arith))
])

-- what is lent at a place is the element there
pub lent_is : {X : Type 0} (xs : List X) (i : ℕ) (r : Option (Bor X)) → IsItemAt xs i r → option_copied r ≡ slice_get xs i
lent_is xs i None h = sym (slice_get_past xs i h.3)
lent_is xs i (Some x) h = sym (slice_get_read xs (length xs) i x.now refl h.3.0 h.1)

-- the same of a list whose elements are turned by f
pub lent_as : {X Y : Type 0} (f : X → Y) (xs : List X) (i : ℕ) (r : Option (Bor X)) → IsItemAt xs i r → option_map f (option_copied r) ≡ slice_get (map f xs) i
lent_as f xs i r h = ap (option_map f) (lent_is xs i r h) ∙ sym (slice_get-map f xs i)

-- where two lists differ, one of them has an element
pub one_is_there : {X Y : Type 0} (f : X → Y) (A B : List X) (i : ℕ) (r s : Option (Bor X)) → IsItemAt A i r → IsItemAt B i s → slice_get (map f A) i ≢ slice_get (map f B) i → IsNone (option_copied r) → IsNone (option_copied s) → ⊥
one_is_there f A B i None None h k differ gone none = differ (sym (lent_as f A i None h) ∙ lent_as f B i None k)
one_is_there f A B i None (Some y) h k differ gone none = cc
one_is_there f A B i (Some x) s h k differ gone none = cc

-- what is left of a list is one less, once an element was taken
pub one_less : {X : Type 0} (x : X) (all rest : List X) (m n : ℕ) → all ≡ x ∷ rest → n + 1 ≡ m → m ≡ length all → n ≡ length rest
one_less x all rest m n steps shorter long =
    let fewer : length all ≡ length (x ∷ rest) = ap (λ (l : List _). length l) steps in
    omega arith

-- one more element was taken, and what it gives was appended to what is gathered
pub one_gathered : {X Y : Type 0} (f : List X → List Y) (x : X) (all rest : List X) (own old new whole : List Y) → all ≡ x ∷ rest → new ≡ old ++ own → old ++ f all ≡ whole → f (x ∷ rest) ≡ own ++ f rest → new ++ f rest ≡ whole
one_gathered f x all rest own old new whole steps pushed was first =
    ap (λ (l : List _). l ++ f rest) pushed
    ∙ append_assoc old own (f rest)
    ∙ ap (λ (l : List _). old ++ l) (sym first)
    ∙ (λ i. old ++ f (sym steps i))
    ∙ was

-- all elements were taken
pub all_gathered : {X Y : Type 0} (f : List X → List Y) (left whole all : List X) (n : ℕ) (old : List Y) → f [] ≡ [] → n ≡ length left → n ≡ 0 → old ++ f left ≡ f whole → whole ≡ all → old ≡ f all
all_gathered f left whole all n old none long ended was is =
    let empty : left ≡ [] = nil_from_length _ (sym long ∙ ended) in
    sym (append-nil old) ∙ ap (λ (l : List _). old ++ l) (sym none) ∙ (λ i. old ++ f (sym empty i)) ∙ was ∙ ap f is
