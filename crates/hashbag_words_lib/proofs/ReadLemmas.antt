-- The tokens of lines, as far as they are counted.
use Rattle.std.proofs.Common.{◌≡◌, ℕ, Bool, true, false, cond, not, List, [], ◌∷◌, ◌++◌, flat_map, IsUtf8, Result, Ok, Err, OnOk, refl, sym, ◌∙◌, ap}
use Rattle.std.specs.Str.{is_utf8}
use Rattle.std.specs.Str.Lossy.{utf8_lossy}
use Rattle.std.proofs.lemmas.Grind.{flat_map-append}
use Rattle.std.proofs.lemmas.List.{append-nil}
use Rattle.std.proofs.lemmas.Str.{IsUtf8-from_is_utf8}
use Rattle.hashbag_words_lib.specs.Tokens.{is_bad, is_replaced, texts_of, tokens_of_line, tokens_of_lines}
use Rattle.hashbag_words_lib.specs.declared.rule.Rule.{Rule}

pub tokens_of_lines-append : (rule : Rule) (xs ys : List (List ℕ)) → tokens_of_lines rule (xs ++ ys) ≡ tokens_of_lines rule xs ++ tokens_of_lines rule ys
tokens_of_lines-append rule xs ys =
    ap (λ (l : List (List ℕ)). flat_map (tokens_of_line rule) l) (flat_map-append (texts_of rule.lossy) xs ys)
    ∙ flat_map-append (tokens_of_line rule) (flat_map (texts_of rule.lossy) xs) (flat_map (texts_of rule.lossy) ys)

-- the tokens of a line that is counted as one text, and of one that isn't counted
tokens_of_one : (rule : Rule) (line text : List ℕ) → texts_of rule.lossy line ≡ text ∷ [] → tokens_of_line rule text ≡ tokens_of_lines rule (line ∷ [])
tokens_of_one rule line text is =
    sym (append-nil (tokens_of_line rule text))
    ∙ ap (λ (l : List (List ℕ)). flat_map (tokens_of_line rule) l) (sym (append-nil (texts_of rule.lossy line) ∙ is))

-- the tokens of a line that is text
pub tokens_of_text : (rule : Rule) (line : List ℕ) → is_utf8 line ≡ true → tokens_of_line rule line ≡ tokens_of_lines rule (line ∷ [])
tokens_of_text rule line is = tokens_of_one rule line line (ap (λ (b : Bool). cond b (line ∷ []) (cond rule.lossy (utf8_lossy line ∷ []) [])) is)

-- the tokens of one that isn't, and whose bytes are replaced
pub tokens_of_replaced : (rule : Rule) (line : List ℕ) → is_utf8 line ≡ false → rule.lossy ≡ true → tokens_of_line rule (utf8_lossy line) ≡ tokens_of_lines rule (line ∷ [])
tokens_of_replaced rule line is lossy =
    tokens_of_one rule line (utf8_lossy line)
    (ap (λ (b : Bool). cond b (line ∷ []) (cond rule.lossy (utf8_lossy line ∷ []) [])) is ∙ ap (λ (b : Bool). cond b (utf8_lossy line ∷ []) []) lossy)

-- a line that is text is neither bad nor replaced
pub text_is_good : (rule : Rule) (line : List ℕ) → is_utf8 line ≡ true → is_bad rule line ≡ false
text_is_good rule line is = ap (λ (b : Bool). cond rule.lossy false (not b)) is ∙ either rule.lossy
  where
    either : (b : Bool) → cond b false false ≡ false
    either true = refl
    either false = refl

pub text_is_plain : (rule : Rule) (line : List ℕ) → is_utf8 line ≡ true → is_replaced rule line ≡ false
text_is_plain rule line is = ap (λ (b : Bool). cond rule.lossy (not b) false) is ∙ either rule.lossy
  where
    either : (b : Bool) → cond b false false ≡ false
    either true = refl
    either false = refl

-- what holds whatever was answered
pub on_any_ok : {X E P : Type 0} (r : Result X E) → P → OnOk r P
on_any_ok (Ok x) p = p
on_any_ok (Err e) p = tt

-- bytes that are no text
pub not_utf8 : (line : List ℕ) → ¬ (IsUtf8 line) → is_utf8 line ≡ false
not_utf8 line other = at (is_utf8 line) refl
  where
    at : (b : Bool) → is_utf8 line ≡ b → b ≡ false
    at true is = absurd (other (IsUtf8-from_is_utf8 line is))
    at false is = refl
