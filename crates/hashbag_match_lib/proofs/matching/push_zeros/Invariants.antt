use Rattle.std.proofs.Common.{◌≡◌, ◌++◌, filter, map}
use Rattle.hashbag_match_lib.specs.Matching.{lent_rows}
use Rattle.hashbag_match_lib.specs.Tallies.{in_neither, zero_row}
use Rattle.hashbag_match_lib.proofs.RowLemmas.{lent_join}
use Rattle.hashbag_match_lib.proofs.matching.push_zeros.Given as goal

-- what was given so far, and what is left of the join
abbrev pub invariant-loop-article : goal.invariant-loop-article
invariant-loop-article g l = record {
  parts : map lent_join l.yielded ++ l.article-iterator ≡ l.initial.article-iterator;
  rows : lent_rows l.rows.items ≡ lent_rows l.fn.rows.items ++ map zero_row (filter (λ e. in_neither g.T.PartialEq.eq l.ordered.counts.items l.delivered.counts.items e.0) (map lent_join l.yielded));
}
