-- What a name means, by a table of names.
use Rattle.std.specs.Prelude.{ℕ, Bool, if◌then◌else◌, List, [], ◌∷◌, Option, None, Some, codes}
use Rattle.hashbag_text.specs.declared.encoding.Encoding.{Encoding}
use Rattle.hashbag_text.specs.declared.encoding.Encoding.TheVariants.{Utf16, Utf16Le, Utf16Be, Latin1, Windows1252}

-- what the first name of a table means for which the test is true
abbrev pub named_in : {X : Type 0} → List (List ℕ × X) → (List ℕ → Bool) → Option X
named_in [] is = None
named_in (row ∷ rows) is = if is row.0 then Some row.1 else named_in rows is

-- the names of the encodings other than UTF-8
abbrev pub encodings : List (List ℕ × Encoding)
encodings =
    (codes "UTF-16", Utf16) ∷ (codes "UTF-16LE", Utf16Le) ∷ (codes "UTF-16BE", Utf16Be) ∷ (codes "Latin-1", Latin1) ∷ (codes "Windows-1252", Windows1252) ∷ []
