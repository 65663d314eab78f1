use Rattle.std.proofs.Common.{◌+◌, ◌<◌, length, sym, ◌∙◌, arith, refl}
use Rattle.std.proofs.lemmas.Bool.{false≢true}
use Rattle.hashbag_table.specs.declared.table.TheConstants.{MOST_VALUES}
use Rattle.hashbag_core.specs.Bag.{occurrences}
use Rattle.hashbag_core.specs.Occurrences.{distinct_count}
use Rattle.hashbag_core.proofs.OccurrenceLemmas.{tally_rearranged}
use Rattle.hashbag_core.proofs.DistinctLemmas.{distinct_count-occurrences}
use Rattle.std.proofs.Common.{ap}
use Rattle.hashbag_core.proofs.HeldLemmas.{shown, items_stay}
use Rattle.hashbag_core.proofs.bag.HashBag.reserve.Goals as goal

pub returns-in_err-reserve-clause-items : goal.returns-in_err-reserve-clause-items
returns-in_err-reserve-clause-items g c = rw (← c.self.view_is) (items_stay g.met.T.Eq.laws _ c.self.inside.table c.reserve.new.self c.self.invariant c.reserve.ensures.entries)

pub invariant_of-self-2 : goal.invariant_of-self-2
invariant_of-self-2 g c = tally_rearranged g.met.T.Eq.laws _ _ _ c.self.invariant c.reserve.ensures.entries.counted c.reserve.ensures.entries.means

pub returns-clause-items : goal.returns-clause-items
returns-clause-items g c = rw (← c.self.view_is) (items_stay g.met.T.Eq.laws _ c.self.inside.table c.reserve.new.self c.self.invariant c.reserve.ensures.entries)

pub returns-clause-past_most : goal.returns-clause-past_most
returns-clause-past_most g c = λ some more.
    let same = distinct_count-occurrences g.met.T.Eq.laws c.self.inside.table.entries c.self.invariant.counted in
    let much : MOST_VALUES < distinct_count g.T.PartialEq.eq (occurrences c.self.inside.table.entries) + c.args.n = rw (← c.self.view_is) at more in
    let many : MOST_VALUES < length c.self.inside.table.entries + c.args.n = omega arith in
    absurd (false≢true (c.in_ok-reserve.ensures.past_most some many))

pub returns-in_err-reserve-clause-len : goal.returns-in_err-reserve-clause-len
returns-in_err-reserve-clause-len g c = rw (← c.self.view_is) (sym (tally_rearranged g.met.T.Eq.laws _ _ _ c.self.invariant c.reserve.ensures.entries.counted c.reserve.ensures.entries.means).sum ∙ c.self.invariant.sum)

pub returns-clause-len : goal.returns-clause-len
returns-clause-len g c = rw (← c.self.view_is) (sym (invariant_of-self-2 g c).sum ∙ c.self.invariant.sum)

pub returns-in_err-reserve-clause-enough : goal.returns-in_err-reserve-clause-enough
returns-in_err-reserve-clause-enough g c = λ enough. absurd (false≢true (c.in_err-reserve.ensures.enough (rw (← c.self.view_is) at enough)).0)

pub returns-clause-enough : goal.returns-clause-enough
returns-clause-enough g c = λ enough. (refl, rw (← c.self.view_is) (ap (shown c.self.inside.most) (c.reserve.ensures.enough (rw (← c.self.view_is) at enough)).1))

pub returns-clause-reserves : goal.returns-clause-reserves
returns-clause-reserves g c = rw (← c.self.view_is, distinct_count-occurrences g.met.T.Eq.laws c.self.inside.table.entries c.self.invariant.counted) c.in_ok-reserve.ensures.reserves
