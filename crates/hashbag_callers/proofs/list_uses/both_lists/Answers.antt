use Rattle.std.proofs.Common.{arith, rules}
use Rattle.std.proofs.lemmas.Iterator.Adapters.{YieldsList-from_vec}
use Rattle.hashbag.specs.Inserts.{empty_bag}
use Rattle.hashbag.proofs.CallerLemmas.{count_listed}
use Rattle.hashbag_callers.proofs.list_uses.both_lists.Goals as goal

pub returns : goal.returns
returns g c = λ v.
    let laws = g.met.T.Eq.laws in
    let first = count_listed laws (empty_bag c.in_ok-bag.bag.hasher) c.in_ok-bag.bag c.args.first.items c.in_ok-bag.ensures.all (YieldsList-from_vec {s = c.into_iter.result} c.args.first.items (search rules) (search rules)) v in
    let second = count_listed laws c.in_ok-bag.bag c.extend.new.self c.args.second.items c.in_ok-extend.ensures.all (YieldsList-from_vec {s = c.into_iter-2.result} c.args.second.items (search rules) (search rules)) v in
    omega arith
