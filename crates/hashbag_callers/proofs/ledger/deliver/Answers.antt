use Rattle.hashbag.proofs.CallerLemmas.{count_inserted, count_inserted_other}
use Rattle.hashbag_callers.proofs.ledger.deliver.Goals as goal

pub returns-clause-entered : goal.returns-clause-entered
returns-clause-entered g c = count_inserted g.met.T.Eq.laws c.args.stock.now c.insert_many.new.self c.args.article c.args.n c.in_ok-insert_many.ensures.inserted.added

pub returns-clause-others : goal.returns-clause-others
returns-clause-others g c = λ v other. count_inserted_other g.met.T.Eq.laws c.args.stock.now c.insert_many.new.self v c.args.article c.args.n c.in_ok-insert_many.ensures.inserted.added other
