use Rattle.std.proofs.Common.{◌≡◌, ℕ, ◌-◌, [], Some, sym, ap, subst, ◌∙◌, slice_set}
use Rattle.hashbag_slots.specs.Cells.{cell_at}
use Rattle.hashbag_slots.specs.Walks.{of_turn, entries_left, places_left, IsNextOn}
use Rattle.hashbag_slots.proofs.Walking.{one_goes, of_turn-odd, of_turn-even}
use Rattle.hashbag_slots.proofs.WalkSteps.{none_left, walk_ends, some_left, IsTaken, next_cell, taken_newer, taken_older}
use Rattle.hashbag_slots.proofs.walk.IntoWalkIterator.next.Goals.{In-Some, After-take, After-take-else-course-eq1}
use Rattle.hashbag_slots.proofs.walk.IntoWalkIterator.next.Goals as goal

-- the place is the next of this walk
on : (g : _) (c : goal.In-Some g) → IsNextOn c.self.inside.newer_tags.items c.self.inside.older_tags.items c.self.inside.course.turn c.self.inside.course.next c.in-Some.place c.in-Some.course
on g c =
    let w = c.self.inside in let p : ℕ = c.in-Some.place in
    subst (λ l. IsNextOn l w.older_tags.items w.course.turn w.course.next p c.in-Some.course) c.as_slice.ensures.value
    (subst (λ l. IsNextOn c.as_slice.result.now l w.course.turn w.course.next p c.in-Some.course) c.as_slice-2.ensures.value c.in-Some.ensures.some)

cell : (g : _) (c : goal.In-Some g) → (e : g.row.T.Denot × ℕ) × (cell_at (of_turn c.in-Some.course.turn c.self.inside.newer c.self.inside.older) c.in-Some.place ≡ Some e)
cell g c =
    let w = c.self.inside in
    next_cell w.newer_tags.items w.older_tags.items w.newer w.older w.course.turn w.course.next w.left c.self.invariant.0 c.in-Some.place c.in-Some.course (on g c)

newer : (g : _) (c : goal.After-take g) → IsTaken (slice_set c.self.inside.newer_tags.items c.in-Some.place 1) c.self.inside.older_tags.items c.take.new.self c.self.inside.older c.in-Some.course (c.self.inside.left - 1) c.take.result (entries_left c.self.inside.course.turn c.self.inside.course.next c.self.inside.newer_tags.items c.self.inside.older_tags.items c.self.inside.newer c.self.inside.older)
newer g c =
    let w = c.self.inside in
    taken_newer w.newer_tags.items w.older_tags.items w.newer w.older w.course.turn w.course.next w.left c.self.invariant.0 c.in-Some.place c.in-Some.course (on g (goal.at.After-take g c).In-Some)
    c.if-course-eq1.true c.take.result c.take.ensures.value c.take.new.self c.take.ensures.after

older : (g : _) (c : goal.After-take-else-course-eq1 g) → IsTaken c.self.inside.newer_tags.items (slice_set c.self.inside.older_tags.items c.in-Some.place 1) c.self.inside.newer c.take-else-course-eq1.new.self c.in-Some.course (c.self.inside.left - 1) c.take-else-course-eq1.result (entries_left c.self.inside.course.turn c.self.inside.course.next c.self.inside.newer_tags.items c.self.inside.older_tags.items c.self.inside.newer c.self.inside.older)
older g c =
    let w = c.self.inside in
    taken_older w.newer_tags.items w.older_tags.items w.newer w.older w.course.turn w.course.next w.left c.self.invariant.0 c.in-Some.place c.in-Some.course (on g (goal.at.After-take-else-course-eq1 g c).In-Some)
    c.if-course-eq1.false c.take-else-course-eq1.result c.take-else-course-eq1.ensures.value c.take-else-course-eq1.new.self c.take-else-course-eq1.ensures.after

pub overflow_sub-self : goal.overflow_sub-self
overflow_sub-self g c =
    let w = c.self.inside in let e = cell g (goal.at.overflow_sub-self g c).In-Some in
    some_left w.newer_tags.items w.older_tags.items w.newer w.older w.course.turn w.course.next w.left c.self.invariant.0 c.in-Some.place c.in-Some.course (on g (goal.at.overflow_sub-self g c).In-Some) e.0 e.1

pub take-requires : goal.take-requires
take-requires g c =
    let e = cell g (goal.at.take-requires g c).In-Some in
    (e.0, ap (λ l. cell_at l c.in-Some.place) (sym (of_turn-odd c.in-Some.course.turn c.self.inside.newer c.self.inside.older c.if-course-eq1.true)) ∙ e.1)

pub invariant_of-self : goal.invariant_of-self
invariant_of-self g c = let done = newer g (goal.at.invariant_of-self g c).After-take in (done.walk, done.course)

pub returns-then-course-eq1-clause-steps : goal.returns-then-course-eq1-clause-steps
returns-then-course-eq1-clause-steps g c = sym c.self.view_is ∙ (newer g (goal.at.returns-then-course-eq1-clause-steps g c).After-take).gives

pub returns-then-course-eq1-clause-goes : goal.returns-then-course-eq1-clause-goes
returns-then-course-eq1-clause-goes g c =
    one_goes c.args.self.now (entries_left c.in-Some.course.turn c.in-Some.course.next (slice_set c.self.inside.newer_tags.items c.in-Some.place 1) c.self.inside.older_tags.items c.take.new.self c.self.inside.older) c.take.result _ (returns-then-course-eq1-clause-steps g c)

pub take-requires-else-course-eq1 : goal.take-requires-else-course-eq1
take-requires-else-course-eq1 g c =
    let e = cell g (goal.at.take-requires-else-course-eq1 g c).In-Some in
    (e.0, ap (λ l. cell_at l c.in-Some.place) (sym (of_turn-even c.in-Some.course.turn c.self.inside.newer c.self.inside.older c.if-course-eq1.false)) ∙ e.1)

pub invariant_of-self-else-course-eq1 : goal.invariant_of-self-else-course-eq1
invariant_of-self-else-course-eq1 g c = let done = older g (goal.at.invariant_of-self-else-course-eq1 g c).After-take-else-course-eq1 in (done.walk, done.course)

pub returns-else-course-eq1-clause-steps : goal.returns-else-course-eq1-clause-steps
returns-else-course-eq1-clause-steps g c = sym c.self.view_is ∙ (older g (goal.at.returns-else-course-eq1-clause-steps g c).After-take-else-course-eq1).gives

pub returns-else-course-eq1-clause-goes : goal.returns-else-course-eq1-clause-goes
returns-else-course-eq1-clause-goes g c =
    one_goes c.args.self.now (entries_left c.in-Some.course.turn c.in-Some.course.next c.self.inside.newer_tags.items (slice_set c.self.inside.older_tags.items c.in-Some.place 1) c.self.inside.newer c.take-else-course-eq1.new.self) c.take-else-course-eq1.result _ (returns-else-course-eq1-clause-steps g c)

pub returns-in-None-clause-steps : goal.returns-in-None-clause-steps
returns-in-None-clause-steps g c =
    let w = c.self.inside in let ts = w.newer_tags.items in let us = w.older_tags.items in
    let none : places_left w.course.turn w.course.next ts us ≡ [] = subst (λ l. places_left w.course.turn w.course.next l us ≡ []) c.as_slice.ensures.value (subst (λ l. places_left w.course.turn w.course.next c.as_slice.result.now l ≡ []) c.as_slice-2.ensures.value c.in-None.ensures.none) in
    let e = sym c.self.view_is ∙ walk_ends ts us w.newer w.older w.course.turn w.course.next w.left c.self.invariant.0 none in (e, e)

pub returns-then-self-eq0-clause-steps : goal.returns-then-self-eq0-clause-steps
returns-then-self-eq0-clause-steps g c =
    let w = c.self.inside in
    let e = sym c.self.view_is ∙ none_left (entries_left w.course.turn w.course.next w.newer_tags.items w.older_tags.items w.newer w.older) w.left c.self.invariant.0.count c.if-self-eq0.true in (e, e)
