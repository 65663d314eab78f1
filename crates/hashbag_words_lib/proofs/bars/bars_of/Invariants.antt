use Rattle.std.proofs.Common.{◌≡◌, ◌++◌, drop, map}
use Rattle.hashbag_core.specs.Walks.{seen}
use Rattle.hashbag_words_lib.specs.Sorted.{row_of}
use Rattle.hashbag_words_lib.specs.Bars.{bar_lines}
use Rattle.hashbag_words_lib.proofs.bars.bars_of.Given as goal

-- with the lines of the rows that are left the text becomes that of all
abbrev pub invariant-loop-row : goal.invariant-loop-row
invariant-loop-row l = l.text.items ++ bar_lines l.layout (map row_of (map seen (drop l.row-index l.rows))) ≡ bar_lines l.layout (map row_of (map seen l.rows))
