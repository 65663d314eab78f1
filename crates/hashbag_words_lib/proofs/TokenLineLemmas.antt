-- Tokens that are written as lines, one after the other.
use Rattle.std.proofs.Common.{◌≡◌, ℕ, List, [], ◌∷◌, ◌++◌, sym, ◌∙◌, ap, append_assoc}
use Rattle.std.proofs.lemmas.Grind.{flat_map-append}
use Rattle.std.proofs.lemmas.List.{append-nil}
use Rattle.hashbag_words_lib.specs.Rows.{escaped}
use Rattle.hashbag_words_lib.specs.TokenLines.{token_lines}

-- a token more
pub line_added : (done part grown token : List ℕ) (before : List (List ℕ)) → grown ≡ part ++ (escaped token ++ 10 ∷ []) → done ++ part ≡ token_lines before → done ++ grown ≡ token_lines (before ++ token ∷ [])
line_added done part grown token before grows has =
    let line : List ℕ = escaped token ++ 10 ∷ [] in
    ap (λ (l : List ℕ). done ++ l) grows
    ∙ sym (append_assoc done part line)
    ∙ ap (λ (l : List ℕ). l ++ line) has
    ∙ sym (flat_map-append (λ (t : List ℕ). escaped t ++ 10 ∷ []) before (token ∷ []) ∙ ap (λ (l : List ℕ). token_lines before ++ l) (append-nil line))
