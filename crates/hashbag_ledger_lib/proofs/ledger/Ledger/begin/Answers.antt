use Rattle.std.proofs.Common.{List, [], sym, subst}
use Rattle.hashbag_ledger_lib.specs.declared.movements.Refusal.{Refusal}
use Rattle.hashbag_ledger_lib.specs.Settled.{IsAfter}
use Rattle.hashbag_ledger_lib.proofs.AfterLemmas.{after_none}
use Rattle.hashbag_ledger_lib.proofs.ledger.Ledger.begin.Goals as goal

pub returns-clause-begun : goal.returns-clause-begun
returns-clause-begun g c =
    let eq = g.T.PartialEq.eq in
    let stock = c.in_ok-stock.stock in
    subst (λ (R : List (Refusal g.row.T.Denot)). IsAfter eq c.args.start.items [] R stock.items stock.most) (sym c.new.ensures.items)
    (after_none eq c.args.start.items stock.items stock.most c.in_ok-stock.ensures.counts c.in_ok-stock.ensures.len)
