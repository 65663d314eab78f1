use Rattle.std.proofs.lemmas.List.Sorted.{IsPermutation-refl, IsPermutation-sym}
use Rattle.hashbag_core.proofs.JoinLemmas.{outer_from_walks, outer_rearranged}
use Rattle.hashbag_core.proofs.bag.HashBag.outer_join.Goals as goal

pub returns : goal.returns
returns g c = λ X Y in_self in_other.
    let there = c.args.other.now.items in
    outer_rearranged g.met.T.Eq.laws X X there Y _ (IsPermutation-refl X) (IsPermutation-sym Y there in_other)
    (outer_from_walks g.met.T.Eq.laws X there c.set_iter.result c.not_in.result (c.set_iter.ensures.walk X in_self) (c.not_in.ensures there X (IsPermutation-refl there) in_self))
