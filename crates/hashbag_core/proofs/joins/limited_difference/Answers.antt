use Rattle.std.proofs.Common.{rules}
use Rattle.hashbag_core.proofs.joins.limited_difference.Goals as goal

pub returns-else-fewer-most : goal.returns-else-fewer-most
returns-else-fewer-most c = search rules
