use Rattle.std.proofs.Common.{rules}
use Rattle.hashbag_core.proofs.bag.HashBag.remove_up_to.Goals as goal

pub returns-clause-fewer : goal.returns-clause-fewer
returns-clause-fewer g c = c.take_up_to.ensures.fewer

pub returns-clause-after : goal.returns-clause-after
returns-clause-after g c = search rules

pub returns-clause-len : goal.returns-clause-len
returns-clause-len g c = search rules
