use Rattle.hashbag_core.proofs.WalkLemmas.{set_walk_of_bag}
use Rattle.hashbag_core.proofs.iters.HashBagIntoIterator.into_iter.Goals as goal

pub returns : goal.returns
returns g c = record {
  into_iter_gives = rw (← c.self.view_is) (set_walk_of_bag g.met.T.Eq.laws _ _ _ _ _ c.self.invariant c.into_walk.ensures.entries);
}
