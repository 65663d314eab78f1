use Rattle.std.proofs.lemmas.List.Sorted.{IsPermutation-refl, IsPermutation-sym}
use Rattle.hashbag_core.proofs.JoinLemmas.{difference_from_walk, difference_rearranged}
use Rattle.hashbag_core.proofs.bag.HashBag.difference.Goals as goal

pub returns : goal.returns
returns g c = λ X Y in_self in_other.
    let there = c.args.other.now.items in
    difference_rearranged g.met.T.Eq.laws X X there Y _ (IsPermutation-refl X) (IsPermutation-sym Y there in_other)
    (difference_from_walk g.met.T.Eq.laws X there c.set_iter.result (c.set_iter.ensures.walk X in_self))
