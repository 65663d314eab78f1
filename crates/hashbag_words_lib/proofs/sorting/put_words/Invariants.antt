use Rattle.std.proofs.Common.{◌≡◌, map}
use Rattle.std.specs.List.{AllWithin}
use Rattle.hashbag_words_lib.specs.Prefix.{bare_row, HasWord}
use Rattle.hashbag_words_lib.proofs.sorting.put_words.Given as goal

-- the rows are the same, and those so far have their bytes before them
abbrev pub invariant-rows : goal.invariant-rows
invariant-rows l = (map bare_row l.rows ≡ map bare_row l.initial.rows) × AllWithin (HasWord l.from) l.rows 0 l.i
