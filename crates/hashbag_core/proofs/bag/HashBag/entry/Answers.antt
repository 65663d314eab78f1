use Rattle.std.proofs.Common.{refl}
use Rattle.hashbag_core.proofs.bag.HashBag.entry.Goals as goal

pub returns-clause-unchanged : goal.returns-clause-unchanged
returns-clause-unchanged g c = refl
