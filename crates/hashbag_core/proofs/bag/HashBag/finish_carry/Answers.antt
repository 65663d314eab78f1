use Rattle.std.proofs.Common.{sym, ◌∙◌}
use Rattle.hashbag_core.proofs.OccurrenceLemmas.{tally_rearranged}
use Rattle.hashbag_core.proofs.HeldLemmas.{items_stay}
use Rattle.hashbag_core.proofs.bag.HashBag.finish_carry.Goals as goal

pub invariant_of-self : goal.invariant_of-self
invariant_of-self g c = tally_rearranged g.met.T.Eq.laws _ _ _ c.self.invariant c.finish_carry.ensures.entries.counted c.finish_carry.ensures.entries.means

pub returns-clause-items : goal.returns-clause-items
returns-clause-items g c = rw (← c.self.view_is) (items_stay g.met.T.Eq.laws _ c.self.inside.table c.finish_carry.new.self c.self.invariant c.finish_carry.ensures.entries)

pub returns-clause-len : goal.returns-clause-len
returns-clause-len g c = rw (← c.self.view_is) (sym (invariant_of-self g c).sum ∙ c.self.invariant.sum)

pub returns-clause-carried : goal.returns-clause-carried
returns-clause-carried g c = rw (← c.self.view_is) c.finish_carry.ensures.carried

pub returns-clause-room : goal.returns-clause-room
returns-clause-room g c = rw (← c.self.view_is) c.finish_carry.ensures.room
