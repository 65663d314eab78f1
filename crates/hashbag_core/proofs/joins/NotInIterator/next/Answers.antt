use Rattle.std.proofs.Common.{rules}
use Rattle.hashbag_core.proofs.joins.NotInIterator.next.Goals as goal

pub returns-then-contains-eq0-clause-steps : goal.returns-then-contains-eq0-clause-steps
returns-then-contains-eq0-clause-steps g c = search rules

pub loop-value-preserved : goal.loop-value-preserved
loop-value-preserved g c = search rules
