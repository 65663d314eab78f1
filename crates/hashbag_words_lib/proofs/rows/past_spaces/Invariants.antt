use Rattle.std.proofs.Common.{◌≡◌, List, ℕ, ◌++◌, length}
use denote.Shadow.{shadow}
use denote.Text.{Utf8}
use Rattle.hashbag_words_lib.specs.Rows.{AreSpaces}
use Rattle.hashbag_words_lib.proofs.rows.past_spaces.Given as goal

-- what came before the rest is spaces
abbrev pub invariant-spaces : goal.invariant-spaces
invariant-spaces l = shadow (Utf8 l.rest) × ((spaces : List ℕ) × AreSpaces spaces × (l.fn.line ≡ spaces ++ l.rest))

abbrev pub decreases-spaces : goal.decreases-spaces
decreases-spaces l = length l.rest
