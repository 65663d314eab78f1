use Rattle.std.proofs.Common.{sym, ◌∙◌, refl}
use Rattle.hashbag_core.proofs.OccurrenceLemmas.{tally_rearranged}
use Rattle.std.proofs.Common.{ap}
use Rattle.std.proofs.lemmas.Bool.{false≢true}
use Rattle.hashbag_core.proofs.DistinctLemmas.{distinct_count-occurrences}
use Rattle.hashbag_core.proofs.HeldLemmas.{shown, items_stay, no_entries, none_from_newer}
use Rattle.hashbag_core.proofs.bag.HashBag.shrink_to_fit.Goals as goal

pub returns-in_err-shrink_to_fit-clause-items : goal.returns-in_err-shrink_to_fit-clause-items
returns-in_err-shrink_to_fit-clause-items g c = rw (← c.self.view_is) (items_stay g.met.T.Eq.laws _ c.self.inside.table c.shrink_to_fit.new.self c.self.invariant c.shrink_to_fit.ensures.entries)

pub invariant_of-self-2 : goal.invariant_of-self-2
invariant_of-self-2 g c = tally_rearranged g.met.T.Eq.laws _ _ _ c.self.invariant c.shrink_to_fit.ensures.entries.counted c.shrink_to_fit.ensures.entries.means

pub returns-clause-items : goal.returns-clause-items
returns-clause-items g c = rw (← c.self.view_is) (items_stay g.met.T.Eq.laws _ c.self.inside.table c.shrink_to_fit.new.self c.self.invariant c.shrink_to_fit.ensures.entries)

pub returns-in_err-shrink_to_fit-clause-len : goal.returns-in_err-shrink_to_fit-clause-len
returns-in_err-shrink_to_fit-clause-len g c = rw (← c.self.view_is) (sym (tally_rearranged g.met.T.Eq.laws _ _ _ c.self.invariant c.shrink_to_fit.ensures.entries.counted c.shrink_to_fit.ensures.entries.means).sum ∙ c.self.invariant.sum)

pub returns-clause-len : goal.returns-clause-len
returns-clause-len g c = rw (← c.self.view_is) (sym (invariant_of-self-2 g c).sum ∙ c.self.invariant.sum)

pub returns-in_err-shrink_to_fit-clause-none : goal.returns-in_err-shrink_to_fit-clause-none
returns-in_err-shrink_to_fit-clause-none g c = λ empty. absurd (false≢true (c.in_err-shrink_to_fit.ensures.none (no_entries g.met.T.Eq.laws _ c.self.invariant.counted (rw (← c.self.view_is) at empty))))

pub returns-in_err-shrink_to_fit-clause-enough : goal.returns-in_err-shrink_to_fit-clause-enough
returns-in_err-shrink_to_fit-clause-enough g c = λ m least enough.
    absurd (false≢true (c.in_err-shrink_to_fit.ensures.enough m (rw (← c.self.view_is, distinct_count-occurrences g.met.T.Eq.laws c.self.inside.table.entries c.self.invariant.counted) at least) (rw (← c.self.view_is) at enough)).0)

pub returns-clause-enough : goal.returns-clause-enough
returns-clause-enough g c = λ m least enough.
    (refl, rw (← c.self.view_is) (ap (shown c.self.inside.most) (c.shrink_to_fit.ensures.enough m (rw (← c.self.view_is, distinct_count-occurrences g.met.T.Eq.laws c.self.inside.table.entries c.self.invariant.counted) at least) (rw (← c.self.view_is) at enough)).1))

pub returns-clause-freed : goal.returns-clause-freed
returns-clause-freed g c = λ empty.
    let none = no_entries g.met.T.Eq.laws _ c.self.invariant.counted (rw (← c.self.view_is) at empty) in
    rw (← c.self.view_is) (none_from_newer c.shrink_to_fit.new.self.tables c.waiting-waiting.result c.self.inside.table.tables.built
    (c.shrink_to_fit.ensures.freed none) c.waiting-waiting.ensures.waiting c.waiting-waiting.ensures.smaller c.waiting-waiting.ensures.freed (c.shrink_to_fit.ensures.freed_built none))

pub returns-clause-shrinks : goal.returns-clause-shrinks
returns-clause-shrinks g c = rw (← c.self.view_is, distinct_count-occurrences g.met.T.Eq.laws c.self.inside.table.entries c.self.invariant.counted) c.in_ok-shrink_to_fit.ensures.shrinks
