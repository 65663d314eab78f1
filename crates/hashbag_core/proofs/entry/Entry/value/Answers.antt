use Rattle.std.proofs.Common.{rules}
use Rattle.hashbag_core.proofs.entry.Entry.value.Goals as goal

pub returns-in-Some : goal.returns-in-Some
returns-in-Some g c = search rules
