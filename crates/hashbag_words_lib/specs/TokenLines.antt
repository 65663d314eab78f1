-- Tokens that are written as lines.
use Rattle.std.specs.Prelude.{◌≡◌, ℕ, List, [], ◌∷◌, ◌++◌, flat_map}
use Rattle.hashbag_words_lib.specs.Rows.{escaped}
use Rattle.hashbag_words_lib.specs.declared.token_lines.TokenLines.{TokenLines}

-- each token on a line of its own, escaped as in `tsv`
abbrev pub token_lines : List (List ℕ) → List ℕ
token_lines tokens = flat_map (λ token. escaped token ++ 10 ∷ []) tokens

-- what was written, and then the lines in memory, are the lines of these tokens
abbrev pub HasLines : {W : Type 0} → (W → List ℕ) → TokenLines W → List (List ℕ) → Type 0
HasLines written lines tokens = written lines.to ++ lines.part.items ≡ token_lines tokens
