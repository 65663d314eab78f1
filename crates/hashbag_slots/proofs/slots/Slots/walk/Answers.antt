use Rattle.std.proofs.Common.{take, ◌≡◌, ◌+◌, ◌<◌, ◌^◌, ◌++◌, length, refl, sym, subst, arith}
use Rattle.std.specs.List.Sorted.{IsPermutation}
use Rattle.hashbag_slots.specs.Columns.{columns}
use Rattle.hashbag_slots.specs.Slots.{entries}
use Rattle.hashbag_slots.specs.Walks.{of_turn, IsWalk, IsCourse, entries_left}
use Rattle.hashbag_slots.proofs.WalkOrder.{walk_all, few, begins, length_few, first_on_course}
use Rattle.hashbag_slots.proofs.slots.Slots.walk.Goals as goal

pub overflow_add-result : goal.overflow_add-result
overflow_add-result g c =
    let i = c.self.inside in let o = c.older.inside in
    let f = few (take i.slots i.tags.items) (take o.slots o.tags.items) i.cells o.cells g.T.PartialEq.eq i.live i.removed o.live o.removed c.self.invariant.shown c.older.invariant.shown in omega (arith, f)

pub invariant_of-result : goal.invariant_of-result
invariant_of-result g c =
    let i = c.self.inside in let o = c.older.inside in
    subst (λ course. IsWalk (take i.slots c.as_slice.result.now) (take o.slots c.as_slice-2.result.now) i.cells o.cells course.turn course.next (i.live + o.live) × IsCourse (take i.slots c.as_slice.result.now) (take o.slots c.as_slice-2.result.now) course × (i.cells ≡ of_turn course.turn i.cells o.cells)) (sym c.first.ensures) (
      subst (λ ts. IsWalk (take i.slots ts) (take o.slots c.as_slice-2.result.now) i.cells o.cells 5 0 (i.live + o.live)) (sym c.as_slice.ensures.value)
          (subst (λ us. IsWalk (take i.slots i.tags.items) (take o.slots us) i.cells o.cells 5 0 (i.live + o.live)) (sym c.as_slice-2.ensures.value)
          (begins (take i.slots i.tags.items) (take o.slots o.tags.items) i.cells o.cells g.T.PartialEq.eq i.live i.removed o.live o.removed c.self.invariant.shown c.older.invariant.shown)),
      first_on_course (take i.slots c.as_slice.result.now) (take o.slots c.as_slice-2.result.now) i.cells o.cells,
      refl,
    )

pub returns-clause-entries : goal.returns-clause-entries
returns-clause-entries g c =
    let i = c.self.inside in let o = c.older.inside in
    let es = entries c.args.self.now.slots ++ entries c.args.older.now.slots in
    subst (λ course. IsPermutation es (entries_left course.turn course.next (take i.slots c.as_slice.result.now) (take o.slots c.as_slice-2.result.now) i.cells o.cells)) (sym c.first.ensures)
    (subst (λ ts. IsPermutation es (entries_left 5 0 (take i.slots ts) (take o.slots c.as_slice-2.result.now) i.cells o.cells)) (sym c.as_slice.ensures.value)
    (subst (λ us. IsPermutation es (entries_left 5 0 (take i.slots i.tags.items) (take o.slots us) i.cells o.cells)) (sym c.as_slice-2.ensures.value)
    (subst (λ s. IsPermutation (entries s.slots ++ entries c.args.older.now.slots) (entries_left 5 0 (take i.slots i.tags.items) (take o.slots o.tags.items) i.cells o.cells)) c.self.view_is
    (subst (λ s. IsPermutation (entries (columns (take i.slots i.tags.items) i.cells).slots ++ entries s.slots) (entries_left 5 0 (take i.slots i.tags.items) (take o.slots o.tags.items) i.cells o.cells)) c.older.view_is
    (walk_all (take i.slots i.tags.items) (take o.slots o.tags.items) i.cells o.cells c.self.invariant.shown.agree c.older.invariant.shown.agree)))))

pub returns-clause-fits : goal.returns-clause-fits
returns-clause-fits g c =
    let i = c.self.inside in let o = c.older.inside in
    subst (λ course. length (entries_left course.turn course.next (take i.slots c.as_slice.result.now) (take o.slots c.as_slice-2.result.now) i.cells o.cells) < 2 ^ 63) (sym c.first.ensures)
    (subst (λ ts. length (entries_left 5 0 (take i.slots ts) (take o.slots c.as_slice-2.result.now) i.cells o.cells) < 2 ^ 63) (sym c.as_slice.ensures.value)
    (subst (λ us. length (entries_left 5 0 (take i.slots i.tags.items) (take o.slots us) i.cells o.cells) < 2 ^ 63) (sym c.as_slice-2.ensures.value)
    (length_few (take i.slots i.tags.items) (take o.slots o.tags.items) i.cells o.cells g.T.PartialEq.eq i.live i.removed o.live o.removed c.self.invariant.shown c.older.invariant.shown)))
