use Rattle.std.proofs.Common.{◌≡◌, take, sym, ap, subst, ◌∙◌}
use Rattle.hashbag_slots.specs.Slots.{HoldsAt, IsSet}
use Rattle.hashbag_slots.specs.Columns.{slots_of, IsGuarded}
use Rattle.hashbag_slots.specs.Probed.{IfFound}
use Rattle.hashbag_slots.proofs.Guards.{slot_count}
use Rattle.hashbag_slots.proofs.Maps.{known-lookup}
use Rattle.hashbag_slots.proofs.slots.Slots.probe_path.Goals as goal

pub probe_path-requires-clause-slots : goal.probe_path-requires-clause-slots
probe_path-requires-clause-slots g c = let i = c.self.inside in slot_count g.T.PartialEq.eq i.slots i.tags.items i.cells i.live i.removed c.self.invariant

pub probe_path-requires-clause-guarded : goal.probe_path-requires-clause-guarded
probe_path-requires-clause-guarded g c = subst (IsGuarded c.self.inside.slots) (sym c.as_slice.ensures.value) c.self.invariant.guarded

pub returns-clause-map : goal.returns-clause-map
returns-clause-map g c =
    let eq = g.T.PartialEq.eq in let test = g.Q.Key.names c.args.key in let i = c.self.inside in
    let seen : slots_of (take i.slots c.as_slice.result.now) i.cells ≡ c.args.self.now.slots = ap (λ us. slots_of (take i.slots us) i.cells) c.as_slice.ensures.value ∙ ap (λ s. s.slots) c.self.view_is in
    known-lookup eq c.args.self.now.slots (subst (IsSet eq) (ap (λ s. s.slots) c.self.view_is) c.self.invariant.shown.table.distinct) test (g.met.Q.Key.names_one c.args.key) c.probe_path.result
    (subst (λ ss. IfFound c.probe_path.result (HoldsAt test ss)) seen c.probe_path.ensures.found)
