use Rattle.std.proofs.Common.{◌%◌, ◌≡◌, ◌<◌, length, get_or, None, sym, ap, subst, ◌∙◌, take}
use Rattle.hashbag_slots.proofs.Dropping.{by_sixteens, none_marked}
use Rattle.hashbag_slots.proofs.Writing.{blank_same}
use Rattle.hashbag_slots.proofs.slots.Slots.drop.Goals as goal

pub drop_if_live-requires-clause-sixteens : goal.drop_if_live-requires-clause-sixteens
drop_if_live-requires-clause-sixteens g c =
    let i = c.self.inside in
    subst (λ ts. length (take i.slots ts) % 16 ≡ 0) (sym c.as_slice.ensures.value) (by_sixteens (take i.slots i.tags.items) i.cells g.T.PartialEq.eq i.live i.removed c.self.invariant.shown)

pub drop_if_live-requires-clause-live : goal.drop_if_live-requires-clause-live
drop_if_live-requires-clause-live g c none p =
    let i = c.self.inside in
    subst (λ ts. get_or (take i.slots ts) p 0 < 128) (sym c.as_slice.ensures.value) (none_marked (take i.slots i.tags.items) i.cells g.T.PartialEq.eq i.live i.removed c.self.invariant.shown none p)

pub free-requires : goal.free-requires
free-requires g c p = ap (λ ds. get_or ds p None) c.drop_if_live.ensures ∙ blank_same _ p None
