use Rattle.hashbag_ledger_lib.proofs.AfterLemmas.{after_none}
use Rattle.hashbag_ledger_lib.proofs.ledger.stock_at_start.Goals as goal

-- no movement has come
pub returns-in-Ok-clause-begun : goal.returns-in-Ok-clause-begun
returns-in-Ok-clause-begun g c =
    rw c.in-Ok.ensures.set
    (after_none g.T.PartialEq.eq c.args.list.items c.in_ok-stock.stock.items c.args.most c.in_ok-stock.ensures.counts c.in_ok-stock.ensures.len)
