-- What the clauses of exports say of a walk that C holds: of the pairs that are left, and of the next ones.
use Rattle.std.specs.Prelude.{◌≡◌, ℕ, List, [], ◌∷◌, length, drop, Option, None, Some}
use Rattle.hashbag_c.specs.Reads.{HasWritten, HasWrittenTexts}
use Rattle.hashbag_c.specs.declared.held.Left.{Left}
use Rattle.hashbag_c.specs.declared.held.Left.TheVariants.{Numbers, Texts}

-- a walk is over numbers, and P holds for the pairs that are left
abbrev pub HasNumberPairs : Option Left → (List (ℕ × ℕ) → Type 0) → Type 0
HasNumberPairs None P = ⊥
HasNumberPairs (Some (Numbers pairs)) P = P pairs.items
HasNumberPairs (Some (Texts pairs)) P = ⊥

-- if a walk is over numbers, P holds for the pairs that are left
abbrev pub IfNumberPairs : Option Left → (List (ℕ × ℕ) → Type 0) → Type 0
IfNumberPairs None P = Unit {0}
IfNumberPairs (Some (Numbers pairs)) P = P pairs.items
IfNumberPairs (Some (Texts pairs)) P = Unit {0}

-- a walk is over byte strings, and P holds for the pairs that are left
abbrev pub HasTextPairs : Option Left → (List (List ℕ × ℕ) → Type 0) → Type 0
HasTextPairs None P = ⊥
HasTextPairs (Some (Numbers pairs)) P = ⊥
HasTextPairs (Some (Texts pairs)) P = P pairs.items

-- if a walk is over byte strings, P holds for the pairs that are left
abbrev pub IfTextPairs : Option Left → (List (List ℕ × ℕ) → Type 0) → Type 0
IfTextPairs None P = Unit {0}
IfTextPairs (Some (Numbers pairs)) P = Unit {0}
IfTextPairs (Some (Texts pairs)) P = P pairs.items

-- the first n of the pairs are written, and the rest is left
pub record HasNext (n : ℕ) (values counts : List ℕ) (pairs rest : List (ℕ × ℕ)) : Type 0 where
  pub written : HasWritten pairs n values counts
  pub left : rest ≡ drop n pairs

-- the first n of these pairs of byte strings are written, and the rest is left
pub record HasNextTexts (n : ℕ) (bytes ends counts : List ℕ) (pairs rest : List (List ℕ × ℕ)) : Type 0 where
  pub written : HasWrittenTexts pairs n bytes ends counts
  pub left : rest ≡ drop n pairs

-- how many bytes the next string has, 0 at the end
abbrev pub next_size : List (List ℕ × ℕ) → ℕ
next_size [] = 0
next_size (e ∷ pairs) = length e.0

-- if `left` is a walk over numbers, so is `after`, and P holds of the pairs of both
abbrev pub NumberPairsTo : Option Left → Option Left → (List (ℕ × ℕ) → List (ℕ × ℕ) → Type 0) → Type 0
NumberPairsTo left after P = IfNumberPairs left (λ pairs. HasNumberPairs after (P pairs))

-- if `left` is a walk over byte strings, so is `after`, and P holds of the pairs of both
abbrev pub TextPairsTo : Option Left → Option Left → (List (List ℕ × ℕ) → List (List ℕ × ℕ) → Type 0) → Type 0
TextPairsTo left after P = IfTextPairs left (λ pairs. HasTextPairs after (P pairs))

-- if a walk has pairs of either kind, P holds for these
abbrev pub IfPairs : Option Left → ((T : Type 0) → List (T × ℕ) → Type 0) → Type 0
IfPairs None P = Unit {0}
IfPairs (Some (Numbers pairs)) P = P ℕ pairs.items
IfPairs (Some (Texts pairs)) P = P (List ℕ) pairs.items

-- if `left` is no walk over numbers, P holds
abbrev pub UnlessNumberPairs : Option Left → Type 0 → Type 0
UnlessNumberPairs None P = P
UnlessNumberPairs (Some (Numbers pairs)) P = Unit {0}
UnlessNumberPairs (Some (Texts pairs)) P = P

-- if `left` is no walk over byte strings, P holds
abbrev pub UnlessTextPairs : Option Left → Type 0 → Type 0
UnlessTextPairs None P = P
UnlessTextPairs (Some (Numbers pairs)) P = P
UnlessTextPairs (Some (Texts pairs)) P = Unit {0}
