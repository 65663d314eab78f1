use Rattle.std.proofs.Common.{◌∙◌}
use Rattle.hashbag_ledger_lib.proofs.DatedLemmas.{sum_named}
use Rattle.hashbag_ledger_lib.proofs.dated.stock_of.Goals as goal

-- as many as the list has
pub returns-in-Ok : goal.returns-in-Ok
returns-in-Ok g c = λ v. c.in-Ok.ensures.counts v ∙ sum_named v c.args.list.items
