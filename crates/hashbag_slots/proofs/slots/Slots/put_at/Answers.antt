use Rattle.std.proofs.Common.{◌≡◌, ℕ, true, Some, None, sym, ap, subst, ◌∙◌, slice_set, take}
use Rattle.hashbag_slots.specs.declared.slots.Slot.TheVariants.{Live}
use Rattle.hashbag_slots.specs.Slots.{is_live, holds, slot_at, count_in}
use Rattle.hashbag_slots.specs.Columns.{columns, slots_of, IsColumns, IsReached}
use Rattle.hashbag_slots.proofs.Reading.{tagged_at, live_at}
use Rattle.hashbag_slots.proofs.Writing.{put_back, rewritten, IsColumns-rewrite, IsReached-rewrite}
use Rattle.hashbag_slots.proofs.Probing.{holder}
use Rattle.hashbag_slots.proofs.slots.Slots.put_at.Goals.{After-put}
use Rattle.hashbag_slots.proofs.slots.Slots.put_at.Goals as goal

pub take-former-requires : goal.take-former-requires
take-former-requires g c =
    let m = tagged_at (take c.self.inside.slots c.self.inside.tags.items) c.self.inside.cells c.self.invariant.shown.agree c.args.place (ap (λ s. is_live (slot_at s.slots c.args.place)) c.self.view_is ∙ ap is_live (holder (g.T.PartialEq.eq c.args.value) (slot_at c.args.self.now.slots c.args.place) c.requires.equal).2) in
    (m.1, m.2)

-- what the slot was
was : (g : _) (c : goal.After-put g) → slot_at c.args.self.now.slots c.args.place ≡ Live c.take-former.result.0 c.take-former.result.1
was g c = sym (ap (λ s. slot_at s.slots c.args.place) c.self.view_is) ∙ live_at (take c.self.inside.slots c.self.inside.tags.items) c.self.inside.cells c.self.invariant.shown.agree c.args.place c.take-former.result c.take-former.ensures.value

-- the new value equals the former one
same : (g : _) (c : goal.After-put g) → g.T.PartialEq.eq c.take-former.result.0 c.args.value ≡ true
same g c = g.met.T.Eq.laws.symm c.take-former.result.0 c.args.value ∙ sym (ap (holds (g.T.PartialEq.eq c.args.value)) (was g c)) ∙ c.requires.equal

pub returns-clause-former : goal.returns-clause-former
returns-clause-former g c = let is = was g c in is ∙ ap (Live c.take-former.result.0) (sym (ap count_in is))

-- the cell has its entry again
again : (g : _) (c : goal.After-put g) → c.put.new.self ≡ slice_set c.self.inside.cells c.args.place (Some (c.args.value, c.take-former.result.1))
again g c = put_back c.self.inside.cells c.take-former.new.self c.put.new.self c.args.place None (Some (c.args.value, c.take-former.result.1)) c.take-former.ensures.after c.put.ensures

pub invariant_of-self : goal.invariant_of-self
invariant_of-self g c =
    let i = c.self.inside in let p : ℕ = c.args.place in let e = c.take-former.result in let cell = c.take-former.ensures.value in
    let counted = c.self.invariant.shown.table.distinct.positive p e.0 e.1 (live_at (take i.slots i.tags.items) i.cells c.self.invariant.shown.agree p e cell) in
    record {
      shown = subst (λ ds. IsColumns g.T.PartialEq.eq (take i.slots i.tags.items) ds i.live i.removed) (sym (again g c))
          (IsColumns-rewrite g.T.PartialEq.eq g.met.T.Eq.laws (take i.slots i.tags.items) i.cells i.live i.removed p c.self.invariant.shown e cell c.args.value e.1 (same g c) counted);
      guarded = c.self.invariant.guarded;
    }

pub returns-clause-after : goal.returns-clause-after
returns-clause-after g c =
    let i = c.self.inside in let p : ℕ = c.args.place in let e = c.take-former.result in
    ap (slots_of (take i.slots i.tags.items)) (again g c) ∙ rewritten (take i.slots i.tags.items) i.cells c.self.invariant.shown.agree p e c.take-former.ensures.value c.args.value e.1
    ∙ ap (λ s. slice_set s.slots p (Live c.args.value e.1)) c.self.view_is ∙ ap (λ s. slice_set c.args.self.now.slots p (Live c.args.value (count_in s))) (sym (was g c))

pub returns-clause-reached : goal.returns-clause-reached
returns-clause-reached g c hash alike r =
    let i = c.self.inside in let e = c.take-former.result in
    subst (λ ds. IsReached hash (columns (take i.slots i.tags.items) ds)) (sym (again g c))
    (IsReached-rewrite (take i.slots i.tags.items) i.cells c.self.invariant.shown.agree c.args.place e c.take-former.ensures.value hash (subst (IsReached hash) (sym c.self.view_is) r) c.args.value e.1 (alike e.0 c.args.value (same g c)))
