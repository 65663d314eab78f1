use Rattle.std.proofs.Common.{sym, ◌∙◌}
use Rattle.hashbag_core.proofs.KeyLemmas.{stored_named_occurrences}
use Rattle.hashbag_core.proofs.OccurrenceLemmas.{bag_from_tally}
use Rattle.hashbag_core.proofs.bag.HashBag.get.Goals as goal

pub returns-clause-found : goal.returns-clause-found
returns-clause-found g c = rw (← c.self.view_is) (c.get.ensures.found ∙ sym (stored_named_occurrences g.met.T.Eq.laws (g.Q.Key.names c.args.key) (g.met.Q.Key.names_one c.args.key) _ c.self.invariant.counted))

pub returns-clause-bag : goal.returns-clause-bag
returns-clause-bag g c = rw (← c.self.view_is) (bag_from_tally g.met.T.Eq.laws _ _ c.self.invariant)
