use Rattle.hashbag_core.proofs.DistinctLemmas.{distinct_count-occurrences}
use Rattle.hashbag_core.proofs.bag.HashBag.capacity.Goals as goal

pub returns : goal.returns
returns g c = rw (← c.self.view_is, distinct_count-occurrences g.met.T.Eq.laws _ c.self.invariant.counted) c.capacity.ensures
