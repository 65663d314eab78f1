use Rattle.std.proofs.Common.{◌≡◌}
use Rattle.hashbag_shell.specs.Tables.{first_word}
use Rattle.hashbag_shell.proofs.table.arg_of.Given as goal

-- the notes leave the name as it is
abbrev pub invariant-notes : goal.invariant-notes
invariant-notes l = l.arg.id.now ≡ first_word l.line
