use Rattle.std.proofs.Common.{◌≡◌, true, sym, ◌∙◌}
use Rattle.hashbag_core.proofs.CopyLemmas.{clones_occurrences, same_from_clones, tally_cloned, entries_from_items}
use Rattle.hashbag_core.proofs.DistinctLemmas.{distinct_count-occurrences}
use Rattle.hashbag_core.proofs.bag.HashBag.clone.Goals as goal

pub clone_in-requires : goal.clone_in-requires
clone_in-requires g c = record {
  equal =
      entries_from_items (λ x. (y : g.row.T.Denot) → g.T.Clone.is_clone x y → g.T.PartialEq.eq x y ≡ true) c.self.inside.table.entries c.self.invariant.counted.positive
      (rw (← c.self.view_is) at c.requires.equal);
}

pub invariant_of-result : goal.invariant_of-result
invariant_of-result g c = tally_cloned g.met.T.Eq.laws g.T.Clone.is_clone _ _ _ c.self.invariant c.in_ok-table.ensures.counted c.in_ok-table.ensures.clones

pub returns-clause-clones : goal.returns-clause-clones
returns-clause-clones g c = rw (← c.self.view_is) (clones_occurrences g.met.T.Eq.laws g.T.Clone.is_clone _ _ c.in_ok-table.ensures.clones)

pub returns-clause-counts : goal.returns-clause-counts
returns-clause-counts g c =
    let equal = rw (← c.self.view_is) at c.requires.equal in
    rw (← c.self.view_is) (same_from_clones g.met.T.Eq.laws g.T.Clone.is_clone _ _ equal (clones_occurrences g.met.T.Eq.laws g.T.Clone.is_clone _ _ c.in_ok-table.ensures.clones))

pub returns-clause-len : goal.returns-clause-len
returns-clause-len g c = rw (← c.self.view_is) (sym (invariant_of-result g c).sum ∙ c.self.invariant.sum)

pub returns-clause-least : goal.returns-clause-least
returns-clause-least g c = rw (← c.self.view_is, distinct_count-occurrences g.met.T.Eq.laws c.self.inside.table.entries c.self.invariant.counted) c.in_ok-table.ensures.least
