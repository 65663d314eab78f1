use Rattle.std.proofs.Common.{arith}
use Rattle.hashbag_core.proofs.JoinLemmas.{length_lacking}
use Rattle.hashbag_core.proofs.joins.NotInIterator.size_hint.Goals as goal

pub returns-clause-upper : goal.returns-clause-upper
returns-clause-upper g c =
    let fewer = length_lacking g.T.PartialEq.eq c.self.inside.other.now.items c.self.inside.left in
    let left = c.len.ensures.value in
    (tt, rw (← c.self.view_is) (omega (arith, fewer, left)))
