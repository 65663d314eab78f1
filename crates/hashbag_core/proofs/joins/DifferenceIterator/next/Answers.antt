use Rattle.std.proofs.Common.{rules}
use Rattle.hashbag_core.proofs.joins.DifferenceIterator.next.Goals as goal

pub loop-value-preserved : goal.loop-value-preserved
loop-value-preserved g c = search rules
