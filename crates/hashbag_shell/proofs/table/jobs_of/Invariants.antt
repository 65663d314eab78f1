use Rattle.std.proofs.Common.{◌≡◌, []}
use Rattle.clap.specs.Facts.{args_of}
use Rattle.hashbag_shell.proofs.table.jobs_of.Given as goal

-- subcommands leave the program's arguments as they are
abbrev pub invariant-jobs : goal.invariant-jobs
invariant-jobs l = args_of l.command ≡ []
