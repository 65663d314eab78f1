use Rattle.std.proofs.Common.{arith}
use Rattle.hashbag.proofs.CallerLemmas.{count_inserted, count_moved}
use Rattle.hashbag_callers.proofs.transfers.transfer.Goals as goal

pub returns-in-Ok-clause-sum : goal.returns-in-Ok-clause-sum
returns-in-Ok-clause-sum g c = λ w.
    let value = c.args.value in
    count_moved g.met.T.Eq.laws c.args.from.now c.remove_up_to.new.self c.args.to.now c.insert_many.new.self w value value c.args.n (g.met.T.Eq.laws.refl value) (omega (arith, c.contains.ensures.count)) c.remove_up_to.ensures.fewer.left c.in-Ok.ensures.inserted.added

pub returns-in-Ok-clause-moved : goal.returns-in-Ok-clause-moved
returns-in-Ok-clause-moved g c = count_inserted g.met.T.Eq.laws c.args.to.now c.insert_many.new.self c.args.value c.args.n c.in-Ok.ensures.inserted.added
