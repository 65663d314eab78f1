use Rattle.std.proofs.Common.{◌≡◌, ℕ, ◌%◌, ◌<◌, get_or, length, None, refl, sym, ap, subst, ◌∙◌, replicate, take, drop, ◌++◌, arith}
use Rattle.std.proofs.lemmas.List.{length-replicate, length-append, length-drop}
use Rattle.hashbag_slots.specs.declared.slots.Slot.TheVariants.{Empty}
use Rattle.hashbag_slots.specs.Columns.{IsGuarded}
use Rattle.hashbag_slots.proofs.Dropping.{by_sixteens, none_marked}
use Rattle.hashbag_slots.proofs.Guards.{stored, length-first, take_cleared, guarded_cleared, slots_are, slot_count}
use Rattle.hashbag_slots.proofs.Writing.{whole, blank_columns, blank_slots, blank_reached}
use Rattle.hashbag_slots.proofs.slots.Slots.clear.Goals.{After-drop_if_live, After-make_all_empty}
use Rattle.hashbag_slots.proofs.slots.Slots.clear.Goals as goal

pub drop_if_live-requires-clause-sixteens : goal.drop_if_live-requires-clause-sixteens
drop_if_live-requires-clause-sixteens g c =
    let i = c.self.inside in
    subst (λ ts. length (take i.slots ts) % 16 ≡ 0) (sym c.as_slice.ensures.value) (by_sixteens (take i.slots i.tags.items) i.cells g.T.PartialEq.eq i.live i.removed c.self.invariant.shown)

pub drop_if_live-requires-clause-live : goal.drop_if_live-requires-clause-live
drop_if_live-requires-clause-live g c none p =
    let i = c.self.inside in
    subst (λ ts. get_or (take i.slots ts) p 0 < 128) (sym c.as_slice.ensures.value) (none_marked (take i.slots i.tags.items) i.cells g.T.PartialEq.eq i.live i.removed c.self.invariant.shown none p)

-- all tags of slots are those of Empty slots
tags : (g : _) (c : goal.After-make_all_empty g) → take c.self.inside.tags.len (c.make_all_empty.new.tags ++ drop (length c.make_all_empty.new.tags) c.self.inside.tags.items) ≡ replicate c.self.inside.slots 0 ++ drop c.self.inside.slots c.self.inside.tags.items
tags g c =
    let n : ℕ = c.self.inside.slots in let ts = c.self.inside.tags.items in
    let new : c.make_all_empty.new.tags ≡ replicate n 0 ++ drop n ts = c.make_all_empty.ensures ∙ ap (λ us. replicate n 0 ++ drop n us) c.as_mut_slice.ensures.value in
    let zeros = length-replicate n (let t : ℕ = 0 in t) in let rest = length-drop n ts in let room = stored n ts c.self.invariant.guarded in
    let long : length c.make_all_empty.new.tags ≡ length ts = ap length new ∙ length-append (replicate n 0) (drop n ts) ∙ omega arith in
    ap (λ m. take m (c.make_all_empty.new.tags ++ drop (length c.make_all_empty.new.tags) ts)) c.self.inside.tags.ok.0 ∙ whole c.make_all_empty.new.tags ts (length ts) long refl ∙ new

-- so the first tags are 0
first : (g : _) (c : goal.After-make_all_empty g) → take c.self.inside.slots (take c.self.inside.tags.len (c.make_all_empty.new.tags ++ drop (length c.make_all_empty.new.tags) c.self.inside.tags.items)) ≡ replicate c.self.inside.slots 0
first g c = ap (take c.self.inside.slots) (tags g c) ∙ take_cleared c.self.inside.slots c.self.inside.tags.items c.self.invariant.guarded

cells : (g : _) (c : goal.After-drop_if_live g) → c.drop_if_live.new.cells ≡ replicate c.self.inside.slots None
cells g c =
    let i = c.self.inside in
    c.drop_if_live.ensures ∙ ap (λ us. replicate (length (take i.slots us)) None) c.as_slice.ensures.value ∙ ap (λ m. replicate m None) (length-first i.slots i.tags.items c.self.invariant.guarded)

pub invariant_of-self : goal.invariant_of-self
invariant_of-self g c =
    let i = c.self.inside in let at = goal.at.invariant_of-self g c in record {
      shown = blank_columns i.slots _ c.drop_if_live.new.cells (first g at.After-make_all_empty) (cells g at.After-drop_if_live) g.T.PartialEq.eq
          (slot_count g.T.PartialEq.eq i.slots i.tags.items i.cells i.live i.removed c.self.invariant);
      guarded = subst (IsGuarded i.slots) (sym (tags g at.After-make_all_empty)) (guarded_cleared i.slots i.tags.items c.self.invariant.guarded);
    }

pub returns-clause-slots : goal.returns-clause-slots
returns-clause-slots g c =
    let i = c.self.inside in let at = goal.at.returns-clause-slots g c in
    blank_slots i.slots _ c.drop_if_live.new.cells (first g at.After-make_all_empty) (cells g at.After-drop_if_live)
    ∙ ap (λ m. replicate m Empty) (sym (slots_are g.T.PartialEq.eq i.slots i.tags.items i.cells i.live i.removed c.self.invariant) ∙ ap (λ s. length s.slots) c.self.view_is)

pub returns-clause-reached : goal.returns-clause-reached
returns-clause-reached g c hash =
    let at = goal.at.returns-clause-reached g c in
    blank_reached c.self.inside.slots _ c.drop_if_live.new.cells (first g at.After-make_all_empty) (cells g at.After-drop_if_live) hash
