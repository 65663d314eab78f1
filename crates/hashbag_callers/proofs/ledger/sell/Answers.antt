use Rattle.std.proofs.Common.{arith}
use Rattle.hashbag.proofs.CallerLemmas.{count_removed, count_removed_other}
use Rattle.hashbag_callers.proofs.ledger.sell.Goals as goal

pub returns-clause-sold : goal.returns-clause-sold
returns-clause-sold g c =
    let left = count_removed g.met.T.Eq.laws c.args.stock.now c.remove_up_to.new.self c.args.article.now c.args.n c.remove_up_to.ensures.fewer.left in
    let before = c.contains.ensures.count in
    omega arith

pub returns-clause-others : goal.returns-clause-others
returns-clause-others g c = λ v other. count_removed_other g.met.T.Eq.laws c.args.stock.now c.remove_up_to.new.self v c.args.article.now c.args.n c.remove_up_to.ensures.fewer.left other
