use Rattle.std.proofs.Common.{◌≡◌, ◌++◌, map}
use Rattle.hashbag_match_lib.specs.Tallies.{row_of_join}
use Rattle.hashbag_match_lib.proofs.RowLemmas.{lent_join}
use Rattle.hashbag_match_lib.proofs.matching.rows_of.Given as goal

-- what was given so far, and what is left of the join
abbrev pub invariant-loop-article : goal.invariant-loop-article
invariant-loop-article g l = record {
  parts : map lent_join l.yielded ++ l.article-iterator ≡ l.initial.article-iterator;
  rows : l.rows.items ≡ map row_of_join l.yielded;
}
