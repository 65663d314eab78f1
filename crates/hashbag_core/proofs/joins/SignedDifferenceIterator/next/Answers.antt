use Rattle.std.proofs.Common.{rules}
use Rattle.hashbag_core.proofs.joins.SignedDifferenceIterator.next.Goals as goal

pub returns-in_err-value-clause-steps : goal.returns-in_err-value-clause-steps
returns-in_err-value-clause-steps g c = search rules

pub returns-clause-steps : goal.returns-clause-steps
returns-clause-steps g c = search rules
