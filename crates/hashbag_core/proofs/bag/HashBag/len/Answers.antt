use Rattle.hashbag_core.proofs.OccurrenceLemmas.{bag_from_tally}
use Rattle.hashbag_core.proofs.bag.HashBag.len.Goals as goal

pub returns-clause-bag : goal.returns-clause-bag
returns-clause-bag g c = rw (← c.self.view_is) (bag_from_tally g.met.T.Eq.laws _ _ c.self.invariant)
