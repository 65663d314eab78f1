use Rattle.std.proofs.Common.{◌≡◌, ℕ, ◌+◌, ◌-◌, ◌<◌, ◌≤◌, eqb, length, get_or, take, sym, ap, subst, ◌∙◌, arith}
use lib.Count.{count_leading_zeros}
use Rattle.std.proofs.lemmas.Bool.{eqb-true}
use Rattle.hashbag_slots.specs.Group.{IsTagMask}
use Rattle.hashbag_slots.specs.Slots.{slot_at}
use Rattle.hashbag_slots.proofs.GroupLemmas.{last_told}
use Rattle.hashbag_slots.proofs.Guards.{first_tag, of_slot, slots_are}
use Rattle.hashbag_slots.proofs.Reading.{empty_at}
use Rattle.hashbag_slots.proofs.slots.Slots.after_last_empty.Goals.{After-self, Else-empty-eq0}
use Rattle.hashbag_slots.proofs.slots.Slots.after_last_empty.Goals as goal

-- the number of slots
same : (g : _) (c : goal.After-self g) → c.self.inside.slots ≡ length c.args.self.now.slots
same g c = let i = c.self.inside in sym (slots_are g.T.PartialEq.eq i.slots i.tags.items i.cells i.live i.removed c.self.invariant) ∙ ap (λ s. length s.slots) c.self.view_is

pub match_tag-empty-requires : goal.match_tag-empty-requires
match_tag-empty-requires g c =
    let i = c.self.inside in let is = same g (goal.at.match_tag-empty-requires g c).After-self in let r = c.requires in
    let long = c.self.invariant.guarded.long (omega arith) in let seen = ap length c.as_slice.ensures.value in omega arith

-- the last Empty slot of the sixteen is before the result
last : (g : _) (c : goal.Else-empty-eq0 g) → (p : ℕ) × (c.args.from ≤ p) × (p < c.args.from + 16) × (p < c.self.inside.slots) × (c.args.from + 64 - count_leading_zeros 64 c.match_tag-empty.result ≡ p + 1) × (get_or (take c.self.inside.slots c.self.inside.tags.items) p 0 ≡ 0)
last g c =
    let i = c.self.inside in let is = same g (goal.at.Else-empty-eq0 g c).After-self in let r = c.requires in let from = c.args.from in let bits = c.match_tag-empty.result in
    let tells = subst (λ us. IsTagMask us 0 from (from + 16) bits) c.as_slice.ensures.value c.match_tag-empty.ensures in
    let some = c.if-empty-eq0.false in
    let one = last_told (λ p. eqb (get_or i.tags.items p 0) 0) from (from + 16) bits tells (omega arith) (omega arith) in
    let near = one.2 in let lead = one.1 in
    let empty : get_or i.tags.items (from + one.0) 0 ≡ 0 = eqb-true _ _ one.3 in
    let within = of_slot i.slots i.tags.items c.self.invariant.guarded (from + one.0) (omega arith) (omega arith) (λ e. absurd (omega arith)) in
    (from + one.0, omega arith, near, within, omega arith, first_tag i.slots i.tags.items c.self.invariant.guarded (from + one.0) within ∙ empty)

pub returns-clause-past : goal.returns-clause-past
returns-clause-past g c some =
    let at = goal.at.returns-clause-past g c in let p = last g at.Else-empty-eq0 in let is = same g at.After-self in
    let low = p.1 in let near = p.2 in let within = p.3 in let next = p.4 in (omega arith, omega arith, omega arith)

pub returns-clause-empty : goal.returns-clause-empty
returns-clause-empty g c some =
    let at = goal.at.returns-clause-empty g c in let p = last g at.Else-empty-eq0 in let next = p.4 in let i = c.self.inside in
    let here : c.args.from + 64 - count_leading_zeros 64 c.match_tag-empty.result - 1 ≡ p.0 = omega arith in
    ap (slot_at c.args.self.now.slots) here ∙ sym (ap (λ s. slot_at s.slots p.0) c.self.view_is) ∙ empty_at (take i.slots i.tags.items) i.cells c.self.invariant.shown.agree p.0 p.5
