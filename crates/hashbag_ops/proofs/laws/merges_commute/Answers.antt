use Rattle.std.proofs.Common.{arith}
use Rattle.hashbag_ops.proofs.laws.merges_commute.Goals as goal

pub returns : goal.returns
returns g c =
    c.are_equal.ensures (λ v.
    let one = c.in_ok-left.ensures v in
    let other = c.in_ok-right.ensures v in
    let first = c.requires.first v in
    let second = c.requires.second v in
    omega (arith, one, other, first, second))
