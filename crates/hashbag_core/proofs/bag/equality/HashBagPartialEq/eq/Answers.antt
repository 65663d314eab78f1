use Rattle.std.proofs.Common.{ℕ, List, sym, ◌∙◌, ap}
use Rattle.std.specs.List.{list_all}
use Rattle.hashbag_core.specs.Bag.{occurrences}
use Rattle.hashbag_core.proofs.EqualityLemmas.{agrees_in, unequal_totals, unequal_counts, equal_counts}
use Rattle.hashbag_core.proofs.bag.equality.HashBagPartialEq.eq.Goals as goal

pub returns-then-self-other : goal.returns-then-self-other
returns-then-self-other g c =
    rw (← c.self.view_is, ← c.other.view_is) (unequal_totals g.met.T.Eq.laws _ _ c.self.invariant.counted c.other.invariant.counted
    (λ long. c.if-self-other.true (c.self.invariant.sum ∙ long ∙ sym c.other.invariant.sum)))

pub returns-then-contains-count : goal.returns-then-contains-count
returns-then-contains-count g c =
    let es = c.self.inside.table.entries in
    let fs = c.other.inside.table.entries in
    let found = rw (← c.other.view_is) at c.contains.ensures.count in
    let so_far = rw (← c.other.view_is) at c.loop-value.invariant in
    rw (← c.self.view_is, ← c.other.view_is) (unequal_counts g.met.T.Eq.laws es c.into_iter-value-iterator.result c.next.new.self (c.in-Some.value.now, c.in-Some.count) (occurrences fs)
    c.self.invariant.counted (rw (c.into_iter-value-iterator.ensures.into_iter_gives) c.walk-value-items.ensures.entries)
    (λ same. c.if-contains-count.true (found ∙ same))
    (ap (λ (l : List (g.row.T.Denot × ℕ)). list_all (agrees_in g.met.T.Eq.laws (occurrences fs)) l) (sym c.in-Some.ensures.steps) ∙ so_far))

pub returns : goal.returns
returns g c =
    let es = c.self.inside.table.entries in
    let fs = c.other.inside.table.entries in
    let so_far = rw (← c.other.view_is) at c.loop-value.invariant in
    rw (← c.self.view_is, ← c.other.view_is) (equal_counts g.met.T.Eq.laws es c.into_iter-value-iterator.result (occurrences fs)
    c.self.invariant.counted (rw (c.into_iter-value-iterator.ensures.into_iter_gives) c.walk-value-items.ensures.entries)
    (sym so_far ∙ ap (λ (l : List (g.row.T.Denot × ℕ)). list_all (agrees_in g.met.T.Eq.laws (occurrences fs)) l) c.in-None.ensures.steps.0)
    (sym c.self.invariant.sum ∙ c.if-self-other.false ∙ c.other.invariant.sum))
