use Rattle.std.proofs.Common.{◌≤◌, arith}
use Rattle.hashbag_core.specs.Occurrences.{count}
use Rattle.hashbag_ledger_lib.proofs.EnterLemmas.{brought_in, taken_out}
use Rattle.hashbag_ledger_lib.proofs.entering.enter.Goals as goal

pub returns-in-Ok-clause-entered : goal.returns-in-Ok-clause-entered
returns-in-Ok-clause-entered g c = λ _. brought_in g.met.T.Eq.laws c.args.movement c.in-In.n c.args.stock.now c.insert_many.new.self c.in-In.is c.in-Ok.ensures.inserted.added

pub returns-else-there-asked-clause-entered : goal.returns-else-there-asked-clause-entered
returns-else-there-asked-clause-entered g c =
    let there = c.contains-there.ensures.count in
    let enough : c.in-Out.asked ≤ count g.T.PartialEq.eq c.args.movement.article c.args.stock.now.items = omega arith in
    λ _. taken_out g.met.T.Eq.laws c.args.movement c.in-Out.asked c.args.stock.now c.remove_up_to.new.self c.in-Out.is enough c.remove_up_to.ensures.fewer.left
