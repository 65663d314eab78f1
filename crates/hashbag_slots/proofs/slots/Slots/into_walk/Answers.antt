use Rattle.std.proofs.Common.{◌+◌, ◌<◌, ◌^◌, ◌++◌, length, sym, subst, arith, take}
use Rattle.std.specs.List.Sorted.{IsPermutation}
use Rattle.hashbag_slots.specs.Columns.{columns}
use Rattle.hashbag_slots.specs.Slots.{entries}
use Rattle.hashbag_slots.specs.Walks.{IsWalk, IsCourse, entries_left}
use Rattle.hashbag_slots.proofs.WalkOrder.{walk_all, few, begins, length_few, first_on_course}
use Rattle.hashbag_slots.proofs.slots.Slots.into_walk.Goals as goal

pub overflow_add-result : goal.overflow_add-result
overflow_add-result g c =
    let i = c.self.inside in let o = c.older.inside in
    let f = few (take i.slots i.tags.items) (take o.slots o.tags.items) i.cells o.cells g.T.PartialEq.eq i.live i.removed o.live o.removed c.self.invariant.shown c.older.invariant.shown in omega (arith, f)

pub invariant_of-result : goal.invariant_of-result
invariant_of-result g c =
    let i = c.self.inside in let o = c.older.inside in
    subst (λ ts. IsWalk ts c.truncate-2.new.self.items i.cells o.cells c.first.result.turn c.first.result.next (i.live + o.live) × IsCourse ts c.truncate-2.new.self.items c.first.result) (sym c.truncate.ensures.items)
    (subst (λ us. IsWalk (take i.slots i.tags.items) us i.cells o.cells c.first.result.turn c.first.result.next (i.live + o.live) × IsCourse (take i.slots i.tags.items) us c.first.result) (sym c.truncate-2.ensures.items)
    (subst (λ course. IsWalk (take i.slots i.tags.items) (take o.slots o.tags.items) i.cells o.cells course.turn course.next (i.live + o.live) × IsCourse (take i.slots i.tags.items) (take o.slots o.tags.items) course) (sym c.first.ensures) (
      begins (take i.slots i.tags.items) (take o.slots o.tags.items) i.cells o.cells g.T.PartialEq.eq i.live i.removed o.live o.removed c.self.invariant.shown c.older.invariant.shown,
      first_on_course (take i.slots i.tags.items) (take o.slots o.tags.items) i.cells o.cells,
    )))

pub returns-clause-entries : goal.returns-clause-entries
returns-clause-entries g c =
    let i = c.self.inside in let o = c.older.inside in
    let es = entries c.args.self.slots ++ entries c.args.older.slots in
    subst (λ ts. IsPermutation es (entries_left c.first.result.turn c.first.result.next ts c.truncate-2.new.self.items i.cells o.cells)) (sym c.truncate.ensures.items)
    (subst (λ us. IsPermutation es (entries_left c.first.result.turn c.first.result.next (take i.slots i.tags.items) us i.cells o.cells)) (sym c.truncate-2.ensures.items)
    (subst (λ course. IsPermutation es (entries_left course.turn course.next (take i.slots i.tags.items) (take o.slots o.tags.items) i.cells o.cells)) (sym c.first.ensures)
    (subst (λ s. IsPermutation (entries s.slots ++ entries c.args.older.slots) (entries_left 5 0 (take i.slots i.tags.items) (take o.slots o.tags.items) i.cells o.cells)) c.self.view_is
    (subst (λ s. IsPermutation (entries (columns (take i.slots i.tags.items) i.cells).slots ++ entries s.slots) (entries_left 5 0 (take i.slots i.tags.items) (take o.slots o.tags.items) i.cells o.cells)) c.older.view_is
    (walk_all (take i.slots i.tags.items) (take o.slots o.tags.items) i.cells o.cells c.self.invariant.shown.agree c.older.invariant.shown.agree)))))

pub returns-clause-fits : goal.returns-clause-fits
returns-clause-fits g c =
    let i = c.self.inside in let o = c.older.inside in
    subst (λ ts. length (entries_left c.first.result.turn c.first.result.next ts c.truncate-2.new.self.items i.cells o.cells) < 2 ^ 63) (sym c.truncate.ensures.items)
    (subst (λ us. length (entries_left c.first.result.turn c.first.result.next (take i.slots i.tags.items) us i.cells o.cells) < 2 ^ 63) (sym c.truncate-2.ensures.items)
    (subst (λ course. length (entries_left course.turn course.next (take i.slots i.tags.items) (take o.slots o.tags.items) i.cells o.cells) < 2 ^ 63) (sym c.first.ensures)
    (length_few (take i.slots i.tags.items) (take o.slots o.tags.items) i.cells o.cells g.T.PartialEq.eq i.live i.removed o.live o.removed c.self.invariant.shown c.older.invariant.shown)))
