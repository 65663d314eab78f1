use Rattle.std.proofs.lemmas.List.Sorted.{IsPermutation-refl, IsPermutation-sym}
use Rattle.hashbag_core.proofs.JoinLemmas.{not_in_from_walk, not_in_rearranged}
use Rattle.hashbag_core.proofs.bag.HashBag.not_in.Goals as goal

pub returns : goal.returns
returns g c = λ X Y in_self in_other.
    let there = c.args.other.now.items in
    not_in_rearranged g.met.T.Eq.laws X X there Y _ (IsPermutation-refl X) (IsPermutation-sym Y there in_other)
    (not_in_from_walk g.met.T.Eq.laws X there c.set_iter.result (c.set_iter.ensures.walk X in_self))
