use Rattle.std.proofs.Common.{◌≡◌, drop}
use Rattle.hashbag_c.proofs.walks.drop_front.Given as goal

abbrev pub invariant-loop-i : goal.invariant-loop-i
invariant-loop-i g l = l.pairs.items ≡ drop l.i l.fn.pairs.items
