use Rattle.std.proofs.Common.{◌+◌, ◌<◌, length, arith}
use Rattle.std.proofs.lemmas.Bool.{false≢true}
use Rattle.hashbag_table.specs.declared.table.TheConstants.{MOST_VALUES}
use Rattle.hashbag_core.specs.Bag.{occurrences}
use Rattle.hashbag_core.specs.Occurrences.{distinct_count}
use Rattle.hashbag_core.proofs.DistinctLemmas.{distinct_count-occurrences}
use Rattle.hashbag_core.proofs.bag.HashBag.spare.Goals as goal

pub returns-clause-least : goal.returns-clause-least
returns-clause-least g c = rw (← c.self.view_is, distinct_count-occurrences g.met.T.Eq.laws c.self.inside.table.entries c.self.invariant.counted) c.in_ok-spare.ensures.least

pub returns-clause-past_most : goal.returns-clause-past_most
returns-clause-past_most g c = λ more.
    let same = distinct_count-occurrences g.met.T.Eq.laws c.self.inside.table.entries c.self.invariant.counted in
    let much : MOST_VALUES < distinct_count g.T.PartialEq.eq (occurrences c.self.inside.table.entries) + c.args.n = rw (← c.self.view_is) at more in
    let many : MOST_VALUES < length c.self.inside.table.entries + c.args.n = omega arith in
    absurd (false≢true (c.in_ok-spare.ensures.past_most many))
