use Rattle.hashbag_core.proofs.WalkLemmas.{set_walk_of_bag}
use Rattle.hashbag_core.proofs.bag.HashBag.set_iter.Goals as goal

pub returns : goal.returns
returns g c = rw (← c.self.view_is) (set_walk_of_bag g.met.T.Eq.laws _ _ _ _ _ c.self.invariant c.walk.ensures.entries)
