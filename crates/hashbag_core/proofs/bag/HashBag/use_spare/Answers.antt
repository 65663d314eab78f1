use Rattle.std.proofs.Common.{◌≤◌, sym, ◌∙◌, subst, arith}
use Rattle.hashbag_table.specs.Tables.{most_used}
use Rattle.hashbag_core.specs.Occurrences.{distinct_count}
use Rattle.hashbag_core.proofs.OccurrenceLemmas.{tally_rearranged}
use Rattle.hashbag_core.proofs.DistinctLemmas.{distinct_count-occurrences}
use Rattle.hashbag_core.proofs.HeldLemmas.{items_stay}
use Rattle.hashbag_core.proofs.bag.HashBag.use_spare.Goals as goal

pub use_spare-requires : goal.use_spare-requires
use_spare-requires g c = record {
  enough =
      let same = distinct_count-occurrences g.met.T.Eq.laws c.self.inside.table.entries c.self.invariant.counted in
      let many = subst (λ a. distinct_count g.T.PartialEq.eq a.items ≤ most_used c.args.spare) (sym c.self.view_is) c.requires.enough in
      omega (arith, same, many);
}

pub invariant_of-self : goal.invariant_of-self
invariant_of-self g c = tally_rearranged g.met.T.Eq.laws _ _ _ c.self.invariant c.use_spare.ensures.entries.counted c.use_spare.ensures.entries.means

pub returns-clause-items : goal.returns-clause-items
returns-clause-items g c = rw (← c.self.view_is) (items_stay g.met.T.Eq.laws _ c.self.inside.table c.use_spare.new.self c.self.invariant c.use_spare.ensures.entries)

pub returns-clause-len : goal.returns-clause-len
returns-clause-len g c = rw (← c.self.view_is) (sym (invariant_of-self g c).sum ∙ c.self.invariant.sum)

pub returns-clause-room : goal.returns-clause-room
returns-clause-room g c =
    let same = distinct_count-occurrences g.met.T.Eq.laws c.self.inside.table.entries c.self.invariant.counted in
    let packed = c.use_spare.ensures.packed.room in
    let slots = c.use_spare.ensures.slots in
    let many = c.use_spare.ensures.values in
    rw (← c.self.view_is) (omega (arith, same, packed, slots, many))
