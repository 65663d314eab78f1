use Rattle.std.proofs.Common.{◌+◌, ◌*◌}
use Rattle.hashbag_words_lib.proofs.sorting.+sorts.Given as goal

abbrev pub decreases-sort_from : goal.decreases-sort_from
decreases-sort_from l = 4 * l.steps + 1

abbrev pub decreases-sort_blocks : goal.decreases-sort_blocks
decreases-sort_blocks l = 4 * l.steps

abbrev pub decreases-sort_cut : goal.decreases-sort_cut
decreases-sort_cut l = 4 * l.steps + 2

abbrev pub decreases-sort_first : goal.decreases-sort_first
decreases-sort_first l = 4 * l.steps + 1

abbrev pub decreases-sort_rest : goal.decreases-sort_rest
decreases-sort_rest l = 4 * l.steps + 1
