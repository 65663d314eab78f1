use Rattle.std.proofs.Common.{◌≡◌, take, sym, ap, subst, ◌∙◌}
use Rattle.std.specs.Option.{IfSome, IfNone}
use Rattle.hashbag_slots.specs.Hashing.{hash_under}
use Rattle.hashbag_slots.specs.Slots.{HoldsAt, IsAbsent, IsSet}
use Rattle.hashbag_slots.specs.Columns.{slots_of, columns, Agree, IsGuarded, IsReachedAt}
use Rattle.hashbag_slots.proofs.Guards.{slot_count}
use Rattle.hashbag_slots.proofs.Hashing.{hash_named}
use Rattle.hashbag_slots.proofs.Maps.{entry_at-lookup}
use Rattle.hashbag_slots.proofs.slots.Slots.find_hashed.Goals.{After-self}
use Rattle.hashbag_slots.proofs.slots.Slots.find_hashed.Goals as goal

-- a probe finds what the key names
reached : (g : _) (c : goal.After-self g) → IsReachedAt (g.Q.Key.names c.args.key) c.args.hash c.args.self.now
reached g c = record {
  hash = hash_under g.T.Hash.hash_input g.S.BuildHasher g.S.Hasher.Hasher c.args.state.now;
  alike = hash_named g.T.Hash.hash_input g.Q.Hash.hash_input g.S.BuildHasher g.S.Hasher.Hasher c.args.state.now c.args.key (g.Q.Key.names c.args.key) (g.met.Q.Key.hashed_alike c.args.key) c.args.hash c.requires.hashed;
  reached = c.requires.reached;
}

pub find_place-requires-clause-slots : goal.find_place-requires-clause-slots
find_place-requires-clause-slots g c = let i = c.self.inside in slot_count g.T.PartialEq.eq i.slots i.tags.items i.cells i.live i.removed c.self.invariant

pub find_place-requires-clause-guarded : goal.find_place-requires-clause-guarded
find_place-requires-clause-guarded g c = subst (IsGuarded c.self.inside.slots) (sym c.as_slice.ensures.value) c.self.invariant.guarded

pub find_place-requires-clause-agree : goal.find_place-requires-clause-agree
find_place-requires-clause-agree g c = let i = c.self.inside in subst (λ us. Agree (take i.slots us) i.cells) (sym c.as_slice.ensures.value) c.self.invariant.shown.agree

pub find_place-requires-clause-reached : goal.find_place-requires-clause-reached
find_place-requires-clause-reached g c =
    let i = c.self.inside in
    subst (λ us. IsReachedAt (g.Q.Key.names c.args.key) c.args.hash (columns (take i.slots us) i.cells)) (sym c.as_slice.ensures.value)
    (subst (IsReachedAt (g.Q.Key.names c.args.key) c.args.hash) (sym c.self.view_is) (reached g (goal.at.find_place-requires-clause-reached g c).After-self))

pub returns-clause-map : goal.returns-clause-map
returns-clause-map g c =
    let eq = g.T.PartialEq.eq in let test = g.Q.Key.names c.args.key in let i = c.self.inside in
    let seen : slots_of (take i.slots c.as_slice.result.now) i.cells ≡ c.args.self.now.slots = ap (λ us. slots_of (take i.slots us) i.cells) c.as_slice.ensures.value ∙ ap (λ s. s.slots) c.self.view_is in
    entry_at-lookup eq c.args.self.now.slots (subst (IsSet eq) (ap (λ s. s.slots) c.self.view_is) c.self.invariant.shown.table.distinct) test (g.met.Q.Key.names_one c.args.key) c.find_place.result
    (subst (λ ss. IfSome c.find_place.result (HoldsAt test ss)) seen c.find_place.ensures.found)
    (subst (λ ss. IfNone c.find_place.result (IsAbsent test ss)) seen c.find_place.ensures.absent)
