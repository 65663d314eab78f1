use Rattle.std.proofs.Common.{refl}
use Rattle.hashbag_core.proofs.json.JsonError.number.Goals as goal

pub returns-in-BadCount-clause-number_of_bad_count : goal.returns-in-BadCount-clause-number_of_bad_count
returns-in-BadCount-clause-number_of_bad_count c = λ i is. refl
