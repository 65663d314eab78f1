use Rattle.std.proofs.Common.{rules}
use Rattle.hashbag_core.proofs.iters.IterExactSizeIterator.len.Goals as goal

pub returns-clause-value : goal.returns-clause-value
returns-clause-value g c = search rules
