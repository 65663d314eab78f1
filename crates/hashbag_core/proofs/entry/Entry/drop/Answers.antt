use Rattle.std.proofs.Common.{rules}
use Rattle.hashbag_core.proofs.entry.Entry.drop.Goals as goal

pub returns : goal.returns
returns g c = search rules
