use Rattle.std.proofs.Common.{◌≡◌, ℕ, ◌+◌, Some, None, refl, sym, ap, subst, ◌∙◌, arith, slice_set, take}
use Rattle.hashbag_slots.specs.declared.slots.Slot.TheVariants.{Live}
use Rattle.hashbag_slots.specs.Slots.{is_live, slot_at, raised, count_in}
use Rattle.hashbag_slots.specs.Columns.{columns, slots_of, IsColumns, IsReached}
use Rattle.hashbag_slots.proofs.Reading.{tagged_at, live_at}
use Rattle.hashbag_slots.proofs.Writing.{put_back, rewritten, IsColumns-rewrite, IsReached-rewrite}
use Rattle.hashbag_slots.proofs.slots.Slots.add_at.Goals.{After-put, After-take-value}
use Rattle.hashbag_slots.proofs.slots.Slots.add_at.Goals as goal

pub take-value-requires : goal.take-value-requires
take-value-requires g c =
    let m = tagged_at (take c.self.inside.slots c.self.inside.tags.items) c.self.inside.cells c.self.invariant.shown.agree c.args.place (ap (λ s. is_live (slot_at s.slots c.args.place)) c.self.view_is ∙ c.requires.live) in
    (m.1, m.2)

-- what the slot was
was : (g : _) (c : goal.After-take-value g) → slot_at c.args.self.now.slots c.args.place ≡ Live c.take-value.result.0 c.take-value.result.1
was g c = sym (ap (λ s. slot_at s.slots c.args.place) c.self.view_is) ∙ live_at (take c.self.inside.slots c.self.inside.tags.items) c.self.inside.cells c.self.invariant.shown.agree c.args.place c.take-value.result c.take-value.ensures.value

pub overflow_add-count : goal.overflow_add-count
overflow_add-count g c =
    let count = ap count_in (was g (goal.at.overflow_add-count g c).After-take-value) in let fits = c.requires.fits in
    record { fits = omega arith }

-- the cell has its entry again
again : (g : _) (c : goal.After-put g) → c.put.new.self ≡ slice_set c.self.inside.cells c.args.place (Some (c.take-value.result.0, c.take-value.result.1 + c.args.n))
again g c = put_back c.self.inside.cells c.take-value.new.self c.put.new.self c.args.place None (Some (c.take-value.result.0, c.take-value.result.1 + c.args.n)) c.take-value.ensures.after c.put.ensures

pub invariant_of-self : goal.invariant_of-self
invariant_of-self g c =
    let i = c.self.inside in let p : ℕ = c.args.place in let e = c.take-value.result in let cell = c.take-value.ensures.value in
    let counted = c.self.invariant.shown.table.distinct.positive p e.0 e.1 (live_at (take i.slots i.tags.items) i.cells c.self.invariant.shown.agree p e cell) in
    record {
      shown = subst (λ ds. IsColumns g.T.PartialEq.eq (take i.slots i.tags.items) ds i.live i.removed) (sym (again g c))
          (IsColumns-rewrite g.T.PartialEq.eq g.met.T.Eq.laws (take i.slots i.tags.items) i.cells i.live i.removed p c.self.invariant.shown e cell e.0 (e.1 + c.args.n) (g.met.T.Eq.laws.refl e.0) (let z = counted in omega arith));
      guarded = c.self.invariant.guarded;
    }

pub returns-clause-after : goal.returns-clause-after
returns-clause-after g c =
    let i = c.self.inside in let p : ℕ = c.args.place in let e = c.take-value.result in
    ap (slots_of (take i.slots i.tags.items)) (again g c) ∙ rewritten (take i.slots i.tags.items) i.cells c.self.invariant.shown.agree p e c.take-value.ensures.value e.0 (e.1 + c.args.n)
    ∙ ap (λ s. slice_set s.slots p (Live e.0 (e.1 + c.args.n))) c.self.view_is ∙ ap (λ s. slice_set c.args.self.now.slots p (raised c.args.n s)) (sym (was g (goal.at.returns-clause-after g c).After-take-value))

pub returns-clause-reached : goal.returns-clause-reached
returns-clause-reached g c hash r =
    let i = c.self.inside in let e = c.take-value.result in
    subst (λ ds. IsReached hash (columns (take i.slots i.tags.items) ds)) (sym (again g c))
    (IsReached-rewrite (take i.slots i.tags.items) i.cells c.self.invariant.shown.agree c.args.place e c.take-value.ensures.value hash (subst (IsReached hash) (sym c.self.view_is) r) e.0 (e.1 + c.args.n) refl)
