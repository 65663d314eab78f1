use Rattle.std.proofs.Common.{◌≡◌, ℕ, List, ap, arith}
use Rattle.hashbag_c.specs.Reads.{size_of}
use Rattle.hashbag_c.proofs.text_batches.sizes.Goals as goal

pub returns : goal.returns
returns c =
    let none : size_of c.loop-value.value-iterator ≡ 0 = ap (λ (l : List (List ℕ × ℕ)). size_of l) c.in-None.ensures.steps.0 in
    let all = c.loop-value.invariant.total in
    omega arith
