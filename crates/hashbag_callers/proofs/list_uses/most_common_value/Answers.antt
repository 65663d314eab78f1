use Rattle.std.proofs.Common.{List, slice_get, ap, ◌∙◌, arith, rules}
use Rattle.std.proofs.lemmas.Iterator.Adapters.{YieldsList-from_vec}
use Rattle.hashbag.specs.Inserts.{empty_bag}
use Rattle.hashbag.proofs.CallerLemmas.{count_listed}
use Rattle.hashbag_ops.proofs.MostCommon.{first_is_most}
use Rattle.hashbag_callers.proofs.list_uses.most_common_value.Goals as goal

-- the bag has the counts of the list
pub returns-in-Some : goal.returns-in-Some
returns-in-Some g c = λ w.
    let laws = g.met.T.Eq.laws in
    let bag = c.in_ok-bag.bag in
    let best = c.in-Some.pair.now in
    let most = first_is_most laws g.T.Ord.cmp bag c.in_ok-pairs.pairs.items best (c.in-Some.ensures.value ∙ ap (λ (ps : List _). slice_get ps 0) c.deref.ensures.value) c.in_ok-pairs.ensures.first w in
    let counted = count_listed laws (empty_bag bag.hasher) bag c.args.values.items c.in_ok-bag.ensures.all (YieldsList-from_vec {s = c.into_iter.result} c.args.values.items (search rules) (search rules)) in
    omega (arith, most, counted w, counted best.0.now)
