-- Texts as messages show them, computed.
use Rattle.std.specs.Prelude.{◌≡◌, [], ◌∷◌, ◌++◌, codes, refl, replicate}
use Rattle.std.specs.Str.{chars}
use lib.Utf8.{encode}
use Rattle.hashbag_csv.specs.Escaped.{escaped_text, shown_text}

-- a line feed and a tab are a backslash and a letter, and a null is its code in braces
line_feed : escaped_text (codes "a\nb\t" ++ 0 ∷ []) ≡ codes "a\\nb\\t\\u{0}"
unfolding chars encode
line_feed = refl

-- quotes, a backslash, and what isn't ASCII are as they are
others : escaped_text (34 ∷ 195 ∷ 188 ∷ 92 ∷ 39 ∷ []) ≡ 34 ∷ 195 ∷ 188 ∷ 92 ∷ 39 ∷ []
unfolding chars encode
others = refl

-- a control character beyond ASCII is escaped too
next_line : escaped_text (194 ∷ 133 ∷ []) ≡ codes "\\u{85}"
unfolding chars encode
next_line = refl

-- sixty characters are all shown; of more characters, only the first sixty are
sixty : shown_text (replicate 60 97) ≡ replicate 60 97
unfolding chars encode
sixty = refl

more : shown_text (replicate 59 97 ++ codes "\n!") ≡ replicate 59 97 ++ codes "\\n.."
unfolding chars encode
more = refl
