-- Texts behind bytes.
use Rattle.std.proofs.Common.{◌≡◌, ℕ, zero, suc, ◌<◌, Bool, true, false, nat_lt, ◌&&◌, ◌++◌, List, [], ◌∷◌, get_or, Option, Some, None, refl, sym, ◌∙◌, ap, append_assoc}
use Rattle.std.proofs.lemmas.Bool.{ltb-true}
use Rattle.std.proofs.lemmas.List.{append-nil}
use Rattle.std.specs.List.{list_all}
use Rattle.std.specs.Prelude.{SomeIff, IsSome}
use Rattle.hashbag_text.specs.Encodings.{after_bytes, yields}
use Rattle.hashbag_text.specs.States.{spelled}

pub behind_none : (t : Option (List ℕ)) → after_bytes [] t ≡ t
behind_none None = refl
behind_none (Some t) = refl

pub behind_end : (xs : List ℕ) → after_bytes xs (Some []) ≡ Some xs
behind_end xs = ap Some (append-nil xs)

-- one more character of a text
pub one_more : (all before after : Option (List ℕ)) (old new : List ℕ) (c : Option ℕ) → all ≡ after_bytes old before → before ≡ yields c after
    → new ≡ old ++ spelled c → all ≡ after_bytes new after
one_more all before after old new None is next grown = is ∙ ap (λ (t : Option (List ℕ)). after_bytes old t) next ∙ ap (λ (xs : List ℕ). after_bytes xs after) (sym (append-nil old) ∙ sym grown)
one_more all before None old new (Some c) is next grown = is ∙ ap (λ (t : Option (List ℕ)). after_bytes old t) next
one_more all before (Some after) old new (Some c) is next grown =
    is ∙ ap (λ (t : Option (List ℕ)). after_bytes old t) next ∙ ap Some (sym (append_assoc old (spelled (Some c)) after))
    ∙ ap (λ (xs : List ℕ). after_bytes xs (Some after)) (sym grown)

pub both : (a b : Bool) → (a && b) ≡ true → (a ≡ true) × (b ≡ true)
both true b h = (refl, h)
both false b h = cc

-- each of the numbers is below
pub below_all : (m : ℕ) (xs : List ℕ) → 0 < m → list_all (λ x. nat_lt x m) xs ≡ true → (k : ℕ) → get_or xs k 0 < m
below_all m [] above each k = above
below_all m (x ∷ xs) above each zero = ltb-true _ _ (both (nat_lt x m) _ each).0
below_all m (x ∷ xs) above each (suc k) = below_all m xs above (both (nat_lt x m) _ each).1 k

-- the value of a conversion that succeeds
pub made : (r : Option ℕ) (P : Type 0) (v w : ℕ) → SomeIff r P v → IsSome r → v ≡ w → r ≡ Some w
made None P v w is some same = cc
made (Some x) P v w is some same = ap Some (is.1 ∙ same)
