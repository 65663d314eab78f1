use Rattle.std.proofs.Common.{◌≡◌, drop, map}
use Rattle.hashbag_core.specs.Walks.{seen}
use Rattle.hashbag_words_lib.specs.Sorted.{row_of}
use Rattle.hashbag_words_lib.specs.Bars.{greatest_of}
use Rattle.hashbag_words_lib.proofs.bars.greatest.Given as goal

-- with the rows that are left it becomes that of all
abbrev pub invariant-loop-row : goal.invariant-loop-row
invariant-loop-row l = greatest_of l.most (map row_of (map seen (drop l.row-index l.rows))) ≡ greatest_of 0 (map row_of (map seen l.rows))
