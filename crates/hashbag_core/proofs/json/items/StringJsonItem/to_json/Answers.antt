use Rattle.std.proofs.Common.{rules}
use Rattle.hashbag_core.proofs.json.items.StringJsonItem.to_json.Goals as goal

pub returns-clause-tree : goal.returns-clause-tree
returns-clause-tree c = search rules
