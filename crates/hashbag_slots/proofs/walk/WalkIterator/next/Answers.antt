use Rattle.std.proofs.Common.{◌≡◌, ℕ, Some, sym, ap, ◌∙◌}
use Rattle.hashbag_slots.specs.Cells.{cell_at}
use Rattle.hashbag_slots.specs.Walks.{of_turn, entries_left}
use Rattle.hashbag_slots.proofs.Walking.{one_goes}
use Rattle.hashbag_slots.proofs.WalkSteps.{none_left, next_cell, walk_gives, walk_ends, some_left, walk_goes_on}
use Rattle.hashbag_slots.proofs.walk.WalkIterator.next.Goals.{then-course-self, else-course-self, After-get-entry, Joined-course-self}
use Rattle.hashbag_slots.proofs.walk.WalkIterator.next.Goals as goal

-- the cells that are read are those of the turn's table
here : (g : _) (c : goal.Joined-course-self g) → c.if-course-self.cells.now ≡ of_turn c.in-Some.course.turn c.self.inside.newer.now c.self.inside.older.now
here g c = elim c.if-course-self.branch [
  | then-course-self b ↦ ap (λ cs. cs.now) b.cells-is ∙ c.self.invariant.2 ∙ sym (ap (λ t. of_turn t c.self.inside.newer.now c.self.inside.older.now) b.if-course-self.true)
  | else-course-self b ↦ ap (λ cs. cs.now) b.cells-is ∙ b.cells_of_turn-cells.ensures
]

cell : (g : _) (c : goal.After-get-entry g) → cell_at (of_turn c.in-Some.course.turn c.self.inside.newer.now c.self.inside.older.now) c.in-Some.place ≡ Some c.get-entry.result.now
cell g c = ap (λ cs. cell_at cs c.in-Some.place) (sym (here g (goal.at.After-get-entry g c).Joined-course-self)) ∙ c.get-entry.ensures

pub get-entry-requires : goal.get-entry-requires
get-entry-requires g c =
    let w = c.self.inside in let p : ℕ = c.in-Some.place in
    let there = next_cell w.newer_tags.now w.older_tags.now w.newer.now w.older.now w.course.turn w.course.next w.left c.self.invariant.0 p c.in-Some.course c.in-Some.ensures.some in
    (there.0, ap (λ cs. cell_at cs p) (here g (goal.at.get-entry-requires g c).Joined-course-self) ∙ there.1)

pub overflow_sub-self : goal.overflow_sub-self
overflow_sub-self g c =
    let w = c.self.inside in
    some_left w.newer_tags.now w.older_tags.now w.newer.now w.older.now w.course.turn w.course.next w.left c.self.invariant.0 c.in-Some.place c.in-Some.course c.in-Some.ensures.some c.get-entry.result.now (cell g (goal.at.overflow_sub-self g c).After-get-entry)

pub invariant_of-self : goal.invariant_of-self
invariant_of-self g c =
    let w = c.self.inside in let on = c.in-Some.ensures.some in
    (walk_goes_on w.newer_tags.now w.older_tags.now w.newer.now w.older.now w.course.turn w.course.next w.left c.self.invariant.0 c.in-Some.place c.in-Some.course on c.get-entry.result.now (cell g (goal.at.invariant_of-self g c).After-get-entry), on.course, here g (goal.at.invariant_of-self g c).Joined-course-self)

pub returns-after-course-self-clause-steps : goal.returns-after-course-self-clause-steps
returns-after-course-self-clause-steps g c =
    let w = c.self.inside in
    sym c.self.view_is ∙ walk_gives w.newer_tags.now w.older_tags.now w.newer.now w.older.now w.course.turn w.course.next w.left c.self.invariant.0 c.in-Some.place c.in-Some.course c.in-Some.ensures.some c.get-entry.result.now (cell g (goal.at.returns-after-course-self-clause-steps g c).After-get-entry)

pub returns-after-course-self-clause-goes : goal.returns-after-course-self-clause-goes
returns-after-course-self-clause-goes g c =
    let w = c.self.inside in
    one_goes c.args.self.now (entries_left c.in-Some.course.turn c.in-Some.course.next w.newer_tags.now w.older_tags.now w.newer.now w.older.now) c.get-entry.result.now _
    (returns-after-course-self-clause-steps g c)

pub returns-in-None-clause-steps : goal.returns-in-None-clause-steps
returns-in-None-clause-steps g c =
    let w = c.self.inside in
    let e = sym c.self.view_is ∙ walk_ends w.newer_tags.now w.older_tags.now w.newer.now w.older.now w.course.turn w.course.next w.left c.self.invariant.0 c.in-None.ensures.none in (e, e)

pub returns-then-self-eq0-clause-steps : goal.returns-then-self-eq0-clause-steps
returns-then-self-eq0-clause-steps g c =
    let w = c.self.inside in
    let e = sym c.self.view_is ∙ none_left (entries_left w.course.turn w.course.next w.newer_tags.now w.older_tags.now w.newer.now w.older.now) w.left c.self.invariant.0.count c.if-self-eq0.true in (e, e)
