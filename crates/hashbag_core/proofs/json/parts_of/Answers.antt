use Rattle.std.proofs.Common.{◌≡◌, length, arith}
use Rattle.hashbag_core.proofs.JsonReadLemmas.{no_pair}
use Rattle.hashbag_core.proofs.json.parts_of.Goals as goal

pub returns-then-len-ne2 : goal.returns-then-len-ne2
returns-then-len-ne2 c =
    let other = c.if-len-ne2.true in
    no_pair _ c.in_ok-list.list.now.items c.in_ok-list.ensures (λ (h : length c.in_ok-list.list.now.items ≡ 2). absurd (omega arith))
