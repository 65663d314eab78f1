-- Texts without the spaces and tabs at their ends, a byte at a time.
use Rattle.std.proofs.Common.{◌≡◌, ℕ, Bool, true, false, cond, List, [], ◌∷◌, ◌++◌, reverse, sym, ◌∙◌, ap}
use Rattle.std.proofs.lemmas.List.{reverse-append, reverse-reverse}
use Rattle.hashbag_csv.specs.KeyForms.{end_trimmed, is_blank, start_trimmed}

-- a space or a tab at the start
pub start_less : (text : List ℕ) (c : ℕ) (rest : List ℕ) → text ≡ c ∷ rest → is_blank c ≡ true → start_trimmed text ≡ start_trimmed rest
start_less text c rest is blank = ap start_trimmed is ∙ ap (λ (b : Bool). cond b (start_trimmed rest) (c ∷ rest)) blank

-- another byte
pub start_kept : (text : List ℕ) (c : ℕ) (rest : List ℕ) → text ≡ c ∷ rest → is_blank c ≡ false → start_trimmed text ≡ text
start_kept text c rest is other = ap start_trimmed is ∙ ap (λ (b : Bool). cond b (start_trimmed rest) (c ∷ rest)) other ∙ sym is

from_the_end : (text : List ℕ) (c : ℕ) (rest : List ℕ) → text ≡ rest ++ c ∷ [] → reverse text ≡ c ∷ reverse rest
from_the_end text c rest is = ap reverse is ∙ reverse-append rest (c ∷ [])

-- a space or a tab at the end
pub end_less : (text : List ℕ) (c : ℕ) (rest : List ℕ) → text ≡ rest ++ c ∷ [] → is_blank c ≡ true → end_trimmed text ≡ end_trimmed rest
end_less text c rest is blank = ap reverse (start_less (reverse text) c (reverse rest) (from_the_end text c rest is) blank)

-- another byte
pub end_kept : (text : List ℕ) (c : ℕ) (rest : List ℕ) → text ≡ rest ++ c ∷ [] → is_blank c ≡ false → end_trimmed text ≡ text
end_kept text c rest is other = ap reverse (start_kept (reverse text) c (reverse rest) (from_the_end text c rest is) other) ∙ reverse-reverse text
