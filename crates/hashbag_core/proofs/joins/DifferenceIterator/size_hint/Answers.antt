use Rattle.std.proofs.Common.{arith}
use Rattle.hashbag_core.proofs.JoinLemmas.{length_excesses}
use Rattle.hashbag_core.proofs.joins.DifferenceIterator.size_hint.Goals as goal

pub returns-clause-upper : goal.returns-clause-upper
returns-clause-upper g c =
    let fewer = length_excesses g.T.PartialEq.eq c.self.inside.other.now.items c.self.inside.left in
    let left = c.len.ensures.value in
    (tt, rw (← c.self.view_is) (omega (arith, fewer, left)))
