use Rattle.std.proofs.Common.{rules}
use Rattle.hashbag_table.proofs.table.Table.hash.Goals as goal

pub returns : goal.returns
returns g c = search rules
