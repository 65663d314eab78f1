use Rattle.std.proofs.Common.{◌≡◌, ◌++◌, map}
use Rattle.hashbag_words_lib.specs.Prefix.{bare_row}
use Rattle.hashbag_words_lib.proofs.sorting.with_numbers.Given as goal

-- the rows so far are there
abbrev pub invariant-loop-row : goal.invariant-loop-row
invariant-loop-row l = (map bare_row l.made.items ≡ l.yielded) × (l.yielded ++ l.row-iterator.rest.items ≡ l.fn.rows.items)
