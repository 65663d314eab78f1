use Rattle.std.specs.Io.KnownBytes.{Consumes}
use Rattle.hashbag_run_lib.proofs.execute.read_all.Given as goal

abbrev pub invariant-reads : goal.invariant-reads
invariant-reads g l = Consumes (g.R.Read.remaining l.initial.input) (g.R.Read.remaining l.input) l.text.items
