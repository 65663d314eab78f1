use Rattle.std.proofs.Common.{◌≡◌, ◌+◌, length, take, sym, ap, subst, ◌∙◌}
use Rattle.std.specs.Option.{IfSome, IfNone}
use Rattle.hashbag_slots.specs.Slots.{IsSlotCount, HoldsAt, IsAbsent, IsSet}
use Rattle.hashbag_slots.specs.Columns.{slots_of, columns, Agree, IsGuarded, IsReachedAt}
use Rattle.hashbag_slots.proofs.Guards.{slots_are, slot_count}
use Rattle.hashbag_slots.proofs.Maps.{entry_at-lookup}
use Rattle.hashbag_slots.proofs.slots.Slots.find_small.Goals.{After-self, After-find_small}
use Rattle.hashbag_slots.proofs.slots.Slots.find_small.Goals as goal

-- the number of slots
same : (g : _) (c : goal.After-self g) → c.self.inside.slots ≡ c.args.mask + 1
same g c = let i = c.self.inside in sym (slots_are g.T.PartialEq.eq i.slots i.tags.items i.cells i.live i.removed c.self.invariant) ∙ ap (λ s. length s.slots) c.self.view_is ∙ sym c.requires.mask

pub find_small-requires-clause-slots : goal.find_small-requires-clause-slots
find_small-requires-clause-slots g c =
    let i = c.self.inside in
    subst IsSlotCount (same g (goal.at.find_small-requires-clause-slots g c).After-self) (slot_count g.T.PartialEq.eq i.slots i.tags.items i.cells i.live i.removed c.self.invariant)

pub find_small-requires-clause-guarded : goal.find_small-requires-clause-guarded
find_small-requires-clause-guarded g c =
    subst (λ us. IsGuarded (c.args.mask + 1) us) (sym c.as_slice.ensures.value)
    (subst (λ n. IsGuarded n c.self.inside.tags.items) (same g (goal.at.find_small-requires-clause-guarded g c).After-self) c.self.invariant.guarded)

pub find_small-requires-clause-agree : goal.find_small-requires-clause-agree
find_small-requires-clause-agree g c =
    let i = c.self.inside in
    subst (λ us. Agree (take (c.args.mask + 1) us) i.cells) (sym c.as_slice.ensures.value)
    (subst (λ n. Agree (take n i.tags.items) i.cells) (same g (goal.at.find_small-requires-clause-agree g c).After-self) c.self.invariant.shown.agree)

pub find_small-requires-clause-reached : goal.find_small-requires-clause-reached
find_small-requires-clause-reached g c =
    let i = c.self.inside in
    subst (λ us. IsReachedAt (g.Q.Key.names c.args.key) c.args.hash (columns (take (c.args.mask + 1) us) i.cells)) (sym c.as_slice.ensures.value)
    (subst (λ n. IsReachedAt (g.Q.Key.names c.args.key) c.args.hash (columns (take n i.tags.items) i.cells)) (same g (goal.at.find_small-requires-clause-reached g c).After-self)
    (subst (IsReachedAt (g.Q.Key.names c.args.key) c.args.hash) (sym c.self.view_is) c.requires.reached))

-- the slots that were probed
seen : (g : _) (c : goal.After-find_small g) → slots_of (take (c.args.mask + 1) c.as_slice.result.now) c.self.inside.cells ≡ c.args.self.now.slots
seen g c =
    let i = c.self.inside in
    ap (λ us. slots_of (take (c.args.mask + 1) us) i.cells) c.as_slice.ensures.value ∙ ap (λ n. slots_of (take n i.tags.items) i.cells) (sym (same g (goal.at.After-find_small g c).After-self)) ∙ ap (λ s. s.slots) c.self.view_is

pub returns-clause-found : goal.returns-clause-found
returns-clause-found g c = subst (λ ss. IfSome c.find_small.result (HoldsAt (g.Q.Key.names c.args.key) ss)) (seen g (goal.at.returns-clause-found g c).After-find_small) c.find_small.ensures.found

pub returns-clause-absent : goal.returns-clause-absent
returns-clause-absent g c = subst (λ ss. IfNone c.find_small.result (IsAbsent (g.Q.Key.names c.args.key) ss)) (seen g (goal.at.returns-clause-absent g c).After-find_small) c.find_small.ensures.absent

pub returns-clause-map : goal.returns-clause-map
returns-clause-map g c =
    let eq = g.T.PartialEq.eq in let is = seen g (goal.at.returns-clause-map g c).After-find_small in
    entry_at-lookup eq c.args.self.now.slots (subst (IsSet eq) (ap (λ s. s.slots) c.self.view_is) c.self.invariant.shown.table.distinct) (g.Q.Key.names c.args.key) (g.met.Q.Key.names_one c.args.key) c.find_small.result
    (subst (λ ss. IfSome c.find_small.result (HoldsAt (g.Q.Key.names c.args.key) ss)) is c.find_small.ensures.found)
    (subst (λ ss. IfNone c.find_small.result (IsAbsent (g.Q.Key.names c.args.key) ss)) is c.find_small.ensures.absent)
