use Rattle.hashbag_core.proofs.GrowthLemmas.{grows_in_turn}
use Rattle.hashbag_callers.proofs.slot_uses.grow_as_listed.Goals as goal

pub returns : goal.returns
returns g c = grows_in_turn g.met.T.Eq.laws
