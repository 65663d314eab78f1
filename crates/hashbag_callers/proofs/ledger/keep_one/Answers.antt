use Rattle.hashbag.proofs.CallerLemmas.{count_replaced, count_replaced_other}
use Rattle.hashbag_callers.proofs.ledger.keep_one.Goals as goal

pub returns-clause-one : goal.returns-clause-one
returns-clause-one g c =
    let stored = c.in_ok-before.ensures.replaced.stored in
    record {
      changed = count_replaced g.met.T.Eq.laws c.args.stock.now c.replace.new.self c.args.article 1 stored;
      others = λ v other. count_replaced_other g.met.T.Eq.laws c.args.stock.now c.replace.new.self v c.args.article 1 stored other;
    }
