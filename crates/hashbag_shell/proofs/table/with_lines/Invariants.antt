use Rattle.std.proofs.Common.{◌≡◌, ◌++◌, map, drop}
use Rattle.hashbag_shell.specs.Tables.{argument_names, declared, is_of_program}
use Rattle.hashbag_shell.proofs.table.with_lines.Given as goal

-- the arguments so far, and those that the other lines declare
abbrev pub invariant-lines : goal.invariant-lines
invariant-lines l =
    argument_names l.command ++ declared l.job l.is_of_job (map (λ line. line.now) (drop l.line-index l.lines))
    ≡ argument_names l.fn.command ++ declared l.job (is_of_program l.job) (map (λ line. line.now) l.lines)
