-- What a pattern matches, as a search gives it match by match.
use Rattle.std.proofs.Common.{◌≡◌, ℕ, Bool, nat_lt, List, [], ◌∷◌, ◌++◌, length, map, slice_range, refl, ◌∙◌, ap}
use Rattle.std.proofs.lemmas.List.{map-append}
use Rattle.std.proofs.lemmas.List.Elements.{filter-append}
use Rattle.regex.specs.Strings.{match_bytes, placed_span}
use Rattle.regex.specs.declared.string.matcher.Match.{Match}
use Rattle.hashbag_words_lib.specs.Tokens.{nonempty, token_of}

-- the tokens of one match more
pub next_match : (fold : Bool) (xs : List (List ℕ)) (x : List ℕ) → map (token_of fold) (nonempty (xs ++ x ∷ [])) ≡ map (token_of fold) (nonempty xs) ++ map (token_of fold) (nonempty (x ∷ []))
next_match fold xs x =
    ap (λ (l : List (List ℕ)). map (token_of fold) l) (filter-append (λ text. nat_lt 0 (length text)) xs (x ∷ []))
    ∙ map-append (token_of fold) (nonempty xs) (nonempty (x ∷ []))

-- matches in these places of a line have these bytes
pub all_matched : (found : List Match) (line : List ℕ) (places : List (ℕ × ℕ)) → map placed_span found ≡ map (λ p. (line, p)) places → map match_bytes found ≡ map (λ place. slice_range line place.0 place.1) places
all_matched [] line [] e = refl
all_matched [] line (p ∷ ps) e = absurd (cc)
all_matched (m ∷ ms) line [] e = absurd (cc)
all_matched (m ∷ ms) line (p ∷ ps) e =
    let first : placed_span m ≡ (line, p) = cc in
    let later : map placed_span ms ≡ map (λ q. (line, q)) ps = cc in
    ap (λ (l : List (List ℕ)). match_bytes m ∷ l) (all_matched ms line ps later)
    ∙ ap (λ (q : List ℕ × (ℕ × ℕ)). slice_range q.0 q.1.0 q.1.1 ∷ map (λ place. slice_range line place.0 place.1) ps) first
