use Rattle.hashbag_run_lib.proofs.ExecutionLemmas.{consumes_none}
use Rattle.hashbag_run_lib.proofs.execute.read_all.Goals as goal

pub reads-init : goal.reads-init
reads-init g c = rw c.new-text.ensures.items (consumes_none (g.R.Read.remaining c.args.input.now))
