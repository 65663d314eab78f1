use Rattle.std.proofs.Common.{◌≡◌, length, ap, arith}
use Rattle.std.proofs.lemmas.List.{length-append}
use Rattle.hashbag_slots.specs.Slots.{entries}
use Rattle.hashbag_table.specs.Tables.{values}
use Rattle.hashbag_table.proofs.SlotLemmas.{length-entries}
use Rattle.hashbag_core.specs.Occurrences.{distinct_count}
use Rattle.hashbag_core.proofs.DistinctLemmas.{distinct_count-occurrences}
use Rattle.hashbag_core.specs.Bag.{occurrences}
use Rattle.hashbag_core.proofs.HeldLemmas.{held_by}
use Rattle.hashbag_core.proofs.bag.HashBag.slots.Goals as goal

pub returns-clause-held : goal.returns-clause-held
returns-clause-held g c = rw (← c.self.view_is) (held_by g.T.PartialEq.eq _ _ c.slots.ensures.entries c.self.invariant.counted)

pub returns-clause-unmoved : goal.returns-clause-unmoved
returns-clause-unmoved g c = rw (← c.self.view_is) c.slots.ensures.unmoved

pub returns-clause-fits : goal.returns-clause-fits
returns-clause-fits g c = rw (← c.self.view_is) c.slots.ensures.fits

pub returns-clause-values : goal.returns-clause-values
returns-clause-values g c =
    let t = c.self.inside.table in
    let both = length-append (entries t.tables.newer) (entries t.tables.waiting) in
    let newer = length-entries t.tables.newer in
    let waiting = length-entries t.tables.waiting in
    let all = ap length c.slots.ensures.entries in
    let distinct = distinct_count-occurrences g.met.T.Eq.laws t.entries c.self.invariant.counted in
    let is : values t.tables ≡ distinct_count g.T.PartialEq.eq (occurrences t.entries) = omega (arith, both, newer, waiting, all, distinct) in
    rw (← c.self.view_is) is
