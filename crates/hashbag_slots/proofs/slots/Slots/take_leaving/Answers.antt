use Rattle.std.proofs.Common.{◌≡◌, ℕ, zero, suc, ◌+◌, ◌-◌, ◌<◌, ◌≤◌, Bool, true, false, None, cond, nat_eq, refl, sym, ap, subst, ◌∙◌, arith, slice_set, take}
use Rattle.std.proofs.lemmas.List.Sums.{count_by-le-length}
use Rattle.core.specs.Int.{from_bool}
use Rattle.hashbag_slots.specs.declared.slots.Slot.TheVariants.{Empty}
use Rattle.hashbag_slots.specs.Slots.{is_live, is_removed, slot_at}
use Rattle.hashbag_slots.specs.Columns.{columns, slot_of, slots_of, IsColumns, IsReached}
use Rattle.hashbag_slots.proofs.Guards.{set-take, stored, length-first, guarded_set}
use Rattle.hashbag_slots.proofs.Paths.{count_bound}
use Rattle.hashbag_slots.proofs.Reading.{dead_slot, tagged_at, live_at}
use Rattle.hashbag_slots.proofs.Writing.{in_tags, IsColumns-take, IsReached-take, set-slots_of}
use Rattle.hashbag_slots.proofs.slots.Slots.take_leaving.Goals.{After-take}
use Rattle.hashbag_slots.proofs.slots.Slots.take_leaving.Goals as goal

-- what the comparison counts for
counts : (b : Bool) → from_bool b ≡ cond b 1 0
counts false = refl
counts true = refl

at_most_one : (b : Bool) → cond b 1 0 ≤ 1
at_most_one false = omega arith
at_most_one true = omega arith

-- 1 is the tag of a Removed slot, 2 of a Moved one
not_empty : (T : Type 0) (t : ℕ) → 0 < t → t < 3 → slot_of {T = T} t None ≡ Empty → ⊥
not_empty T zero some few e = absurd (omega arith)
not_empty T (suc zero) some few e = cc
not_empty T (suc (suc zero)) some few e = cc
not_empty T (suc (suc (suc t))) some few e = absurd (omega arith)

pub index_mut-requires : goal.index_mut-requires
index_mut-requires g c =
    let ts = (take c.self.inside.slots c.self.inside.tags.items) in let cs = c.self.inside.cells in
    let m = tagged_at ts cs c.self.invariant.shown.agree c.args.place (ap (λ s. is_live (slot_at s.slots c.args.place)) c.self.view_is ∙ c.requires.live) in
    let l = in_tags ts cs c.self.invariant.shown.agree c.args.place m.1 m.2 in let k = c.self.inside.tags.ok.0 in
    let first = length-first c.self.inside.slots c.self.inside.tags.items c.self.invariant.guarded in let room = stored c.self.inside.slots c.self.inside.tags.items c.self.invariant.guarded in omega arith

-- the place is that of a slot
within : (g : _) (c : goal.After-take g) → c.args.place < c.self.inside.slots
within g c =
    let ts = (take c.self.inside.slots c.self.inside.tags.items) in let cs = c.self.inside.cells in
    let l = in_tags ts cs c.self.invariant.shown.agree c.args.place c.take.result c.take.ensures.value in
    let first = length-first c.self.inside.slots c.self.inside.tags.items c.self.invariant.guarded in omega arith

-- the tags of the slots after the write
tags : (g : _) (c : goal.After-take g) → take c.self.inside.slots (slice_set c.self.inside.tags.items c.args.place c.args.tag) ≡ slice_set (take c.self.inside.slots c.self.inside.tags.items) c.args.place c.args.tag
tags g c = set-take c.self.inside.tags.items c.self.inside.slots c.args.place c.args.tag (within g c)

pub take-requires : goal.take-requires
take-requires g c =
    let m = tagged_at (take c.self.inside.slots c.self.inside.tags.items) c.self.inside.cells c.self.invariant.shown.agree c.args.place (ap (λ s. is_live (slot_at s.slots c.args.place)) c.self.view_is ∙ c.requires.live) in
    (m.1, m.2)

pub overflow_add-self : goal.overflow_add-self
overflow_add-self g c =
    let ss = slots_of (take c.self.inside.slots c.self.inside.tags.items) c.self.inside.cells in
    let few = count_by-le-length is_removed ss in let bound = count_bound _ c.self.invariant.shown.table.count in let is = c.self.invariant.shown.table.removed_is in
    let one = at_most_one (nat_eq c.args.tag 1) in let is_one : c.from.result ≡ cond (nat_eq c.args.tag 1) 1 0 = c.from.ensures ∙ counts (nat_eq c.args.tag 1) in
    record { fits = omega arith }

pub invariant_of-self : goal.invariant_of-self
invariant_of-self g c =
    let ts = (take c.self.inside.slots c.self.inside.tags.items) in let cs = c.self.inside.cells in let p : ℕ = c.args.place in let t : ℕ = c.args.tag in
    let live : ℕ = c.self.inside.live in let removed : ℕ = c.self.inside.removed in let few = c.requires.tag.1 in
    record {
      shown = subst (λ us. IsColumns g.T.PartialEq.eq us c.take.new.self (live - 1) (removed + c.from.result)) (sym (tags g (goal.at.invariant_of-self g c).After-take))
          (subst (λ ds. IsColumns g.T.PartialEq.eq (slice_set ts p t) ds (live - 1) (removed + c.from.result)) (sym c.take.ensures.after)
          (subst (λ k. IsColumns g.T.PartialEq.eq (slice_set ts p t) (slice_set cs p None) (live - 1) (removed + k)) (sym (c.from.ensures ∙ counts (nat_eq t 1)))
          (IsColumns-take g.T.PartialEq.eq g.met.T.Eq.laws ts cs live removed p c.self.invariant.shown c.take.result c.take.ensures.value t (omega arith))));
      guarded = guarded_set c.self.inside.slots c.self.inside.tags.items c.self.invariant.guarded p t (within g (goal.at.invariant_of-self g c).After-take);
    }

pub returns-clause-taken : goal.returns-clause-taken
returns-clause-taken g c =
    let ts = (take c.self.inside.slots c.self.inside.tags.items) in let cs = c.self.inside.cells in let p : ℕ = c.args.place in
    sym (ap (λ s. slot_at s.slots p) c.self.view_is) ∙ live_at ts cs c.self.invariant.shown.agree p c.take.result c.take.ensures.value

pub returns-clause-positive : goal.returns-clause-positive
returns-clause-positive g c =
    let e = c.take.result in
    c.self.invariant.shown.table.distinct.positive c.args.place e.0 e.1 (live_at (take c.self.inside.slots c.self.inside.tags.items) c.self.inside.cells c.self.invariant.shown.agree c.args.place e c.take.ensures.value)

pub returns-clause-after : goal.returns-clause-after
returns-clause-after g c =
    let ts = (take c.self.inside.slots c.self.inside.tags.items) in let cs = c.self.inside.cells in let p : ℕ = c.args.place in let t : ℕ = c.args.tag in
    ap (λ us. slots_of us c.take.new.self) (tags g (goal.at.returns-clause-after g c).After-take) ∙ ap (slots_of (slice_set ts p t)) c.take.ensures.after ∙ set-slots_of ts cs p t None c.self.invariant.shown.agree.same_length ∙ ap (λ s. slice_set s.slots p (slot_of t None)) c.self.view_is

pub returns-clause-reached : goal.returns-clause-reached
returns-clause-reached g c hash r =
    let ts = (take c.self.inside.slots c.self.inside.tags.items) in let cs = c.self.inside.cells in let p : ℕ = c.args.place in let t : ℕ = c.args.tag in
    subst (λ us. IsReached hash (columns us c.take.new.self)) (sym (tags g (goal.at.returns-clause-reached g c).After-take))
    (subst (λ ds. IsReached hash (columns (slice_set ts p t) ds)) (sym c.take.ensures.after)
    (IsReached-take ts cs c.self.invariant.shown.agree p c.take.result c.take.ensures.value hash (subst (IsReached hash) (sym c.self.view_is) r) t (dead_slot g.row.T.Denot t) (not_empty g.row.T.Denot t c.requires.tag.0 c.requires.tag.1)))
