use Rattle.std.proofs.Common.{arith}
use Rattle.hashbag_ops.proofs.laws.merges_associate.Goals as goal

pub returns : goal.returns
returns g c =
    c.are_equal.ensures (λ v.
    let left = c.in_ok-left.ensures v in
    let right = c.in_ok-right.ensures v in
    let first = c.requires.first v in
    let second = c.requires.second v in
    let third = c.requires.third v in
    omega (arith, left, right, first, second, third))
