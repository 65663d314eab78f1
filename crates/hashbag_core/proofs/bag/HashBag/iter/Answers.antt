use Rattle.hashbag_core.proofs.WalkLemmas.{walk_of_bag, pending_from_tally}
use Rattle.hashbag_core.proofs.bag.HashBag.iter.Goals as goal

pub invariant_of-result : goal.invariant_of-result
invariant_of-result g c = pending_from_tally g.met.T.Eq.laws _ _ _ c.self.invariant c.walk.ensures.entries

pub returns : goal.returns
returns g c = rw (← c.self.view_is) (walk_of_bag g.met.T.Eq.laws _ _ _ _ _ c.self.invariant c.walk.ensures.entries)
