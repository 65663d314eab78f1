use Rattle.std.proofs.Common.{◌≡◌, drop, map}
use Rattle.hashbag_core.specs.Walks.{seen}
use Rattle.hashbag_words_lib.specs.Sorted.{row_of}
use Rattle.hashbag_words_lib.specs.Bars.{widest}
use Rattle.hashbag_words_lib.proofs.bars.widest.Given as goal

-- with the rows that are left it becomes that of all
abbrev pub invariant-loop-row : goal.invariant-loop-row
invariant-loop-row l = widest l.limit l.most (map row_of (map seen (drop l.row-index l.rows))) ≡ widest l.limit 0 (map row_of (map seen l.rows))
