use Rattle.std.proofs.Common.{sym, ◌∙◌}
use Rattle.hashbag_table.proofs.KeyLemmas.{named_present, named_absent}
use Rattle.hashbag_core.proofs.KeyLemmas.{named_occurrences}
use Rattle.hashbag_core.proofs.OccurrenceLemmas.{bag_from_tally}
use Rattle.hashbag_core.proofs.bag.HashBag.contains.Goals as goal

pub returns-in-Some-clause-count : goal.returns-in-Some-clause-count
returns-in-Some-clause-count g c =
    let names = g.Q.Key.names c.args.key in
    rw (← c.self.view_is) (sym (named_present names _ _ (sym c.in-Some.ensures.found)) ∙ sym (named_occurrences g.met.T.Eq.laws names (g.met.Q.Key.names_one c.args.key) _ c.self.invariant.counted.distinct))

pub returns-in-None-clause-count : goal.returns-in-None-clause-count
returns-in-None-clause-count g c =
    let names = g.Q.Key.names c.args.key in
    rw (← c.self.view_is) (sym (named_absent names _ (sym c.in-None.ensures.found)) ∙ sym (named_occurrences g.met.T.Eq.laws names (g.met.Q.Key.names_one c.args.key) _ c.self.invariant.counted.distinct))

pub returns-in-Some-clause-bag : goal.returns-in-Some-clause-bag
returns-in-Some-clause-bag g c = rw (← c.self.view_is) (bag_from_tally g.met.T.Eq.laws _ _ c.self.invariant)

pub returns-in-None-clause-bag : goal.returns-in-None-clause-bag
returns-in-None-clause-bag g c = rw (← c.self.view_is) (bag_from_tally g.met.T.Eq.laws _ _ c.self.invariant)
