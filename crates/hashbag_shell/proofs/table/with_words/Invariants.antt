use Rattle.std.proofs.Common.{◌≡◌}
use Rattle.hashbag_shell.proofs.table.with_words.Given as goal

-- the words leave the name as it is
abbrev pub invariant-words : goal.invariant-words
invariant-words l = l.arg.id ≡ l.fn.arg.id
