-- In which form the fields of an article are compared, and shown.
use Rattle.std.specs.Prelude.{ℕ, ◌==◌, ◌||◌, if◌then◌else◌, Bool, List, [], ◌∷◌, reverse, chars, encode_utf8_all}
use Rattle.caseless.specs.Caseless.{default_case_fold}
use Rattle.hashbag_csv.specs.declared.key_form.KeyForm.{KeyForm}

-- a byte is a space or a tab
abbrev pub is_blank : ℕ → Bool
is_blank c = (c == 32) || (c == 9)

-- a text without the spaces and tabs at its start
abbrev pub start_trimmed : List ℕ → List ℕ
start_trimmed [] = []
start_trimmed (c ∷ cs) = if is_blank c then start_trimmed cs else c ∷ cs

-- a text without the spaces and tabs at its end
abbrev pub end_trimmed : List ℕ → List ℕ
end_trimmed text = reverse (start_trimmed (reverse text))

-- a text without the spaces and tabs at both ends
abbrev pub trimmed : List ℕ → List ℕ
trimmed text = end_trimmed (start_trimmed text)

-- a text with its case folded, by Unicode's full case folding
abbrev pub folded : List ℕ → List ℕ
folded text = encode_utf8_all (default_case_fold (chars text))

-- a text, trimmed if `trim` is true
abbrev pub trimmed_if : Bool → List ℕ → List ℕ
trimmed_if trim text = if trim then trimmed text else text

-- a field in this form: trimmed if `form.trim`, and then folded if `form.fold`
abbrev pub field_in : KeyForm → List ℕ → List ℕ
field_in form field = let text = trimmed_if form.trim field in (if form.fold then folded text else text)
