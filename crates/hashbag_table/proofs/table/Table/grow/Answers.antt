use Rattle.std.proofs.Common.{◌≡◌, ◌+◌, ◌++◌, [], sym, ap, subst, ◌∙◌, replicate}
use Rattle.std.specs.List.Sorted.{IsPermutation}
use Rattle.hashbag_slots.specs.Hashing.{hash_under}
use Rattle.hashbag_slots.specs.declared.slots.Slot.TheVariants.{Empty}
use Rattle.hashbag_slots.specs.Slots.{IsSlotCount}
use Rattle.hashbag_table.specs.Tables.{MayAdopt, Carried, grown_slots, room, fresh}
use Rattle.hashbag_table.proofs.CarryLemmas.{ready_grown}
use Rattle.hashbag_table.proofs.GrowLemmas.{Grows, alone, may_adopt, slots_after, room_after, no_entries}
use Rattle.hashbag_table.proofs.table.Table.grow.Goals.{In_ok-newer}
use Rattle.hashbag_table.proofs.table.Table.grow.Goals as goal

-- the new table follows the full one
grows : (g : _) (c : In_ok-newer g) → Grows g.T.PartialEq.eq (hash_under g.T.Hash.hash_input g.S.BuildHasher g.S.Hasher.Hasher c.self.inside.hasher) c.self.inside.newer c.self.inside.older c.in_ok-newer.newer c.self.inside.carried_to
grows g c = record {
  before = c.self.invariant.kept;
  full = subst (λ t. room t.tables ≡ 0) (sym c.self.view_is) c.requires.full;
  count = subst IsSlotCount c.slots.ensures.value c.slots.ensures.count;
  slots = c.in_ok-newer.ensures.slots ∙ ap (λ k. replicate k Empty) (c.in_ok-grown.ensures.grown ∙ (λ i. grown_slots (c.slots.ensures.value i) (c.live.ensures i)));
  reached = c.in_ok-newer.ensures.reached _;
}

pub adopt-requires-clause-none_waits : goal.adopt-requires-clause-none_waits
adopt-requires-clause-none_waits g c = subst (λ t. t.tables.waiting ≡ []) c.self.view_is (alone (grows g (goal.at.adopt-requires-clause-none_waits g c).In_ok-newer))

pub adopt-requires-clause-may : goal.adopt-requires-clause-may
adopt-requires-clause-may g c =
    subst (λ t. MayAdopt g.T.PartialEq.eq (hash_under g.T.Hash.hash_input g.S.BuildHasher g.S.Hasher.Hasher t.hasher) c.in_ok-newer.newer t.tables.newer 16) c.self.view_is
    (may_adopt (grows g (goal.at.adopt-requires-clause-may g c).In_ok-newer))

pub returns-clause-ready : goal.returns-clause-ready
returns-clause-ready g c =
    let h = grows g (goal.at.returns-clause-ready g c).In_ok-newer in let now = c.adopt.new.self.tables in
    let first = room_after h now (subst (λ t. Carried 16 c.in_ok-newer.newer.slots t.tables.newer now.newer now.waiting) (sym c.self.view_is) c.adopt.ensures.carried) in
    ready_grown c.args.self.now.tables now now c.requires.full
    (subst (λ ss. Carried 16 ss c.args.self.now.tables.newer now.newer now.waiting) (slots_after h ∙ ap (λ t. fresh t.tables) c.self.view_is) c.adopt.ensures.carried)
    (subst (λ t. t.tables.waiting ≡ []) c.self.view_is (alone h)) first.0 first.1
    (c.adopt.ensures.built ∙ ap (λ k. c.args.self.now.tables.built + k) (sym c.adopt.ensures.carried.fills.same_length))

pub returns-clause-entries : goal.returns-clause-entries
returns-clause-entries g c =
    subst (λ es. IsPermutation (es ++ c.args.self.now.entries) c.adopt.new.self.entries) (no_entries (grows g (goal.at.returns-clause-entries g c).In_ok-newer)) c.adopt.ensures.entries
