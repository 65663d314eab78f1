use Rattle.std.proofs.Common.{ℕ, ◌≡◌, false, [], ◌∷◌, length, slice_set, refl, sym, ap, subst, ◌∙◌, arith}
use Rattle.std.proofs.lemmas.List.{set-get_or}
use Rattle.hashbag_slots.specs.Hashing.{hash_under}
use Rattle.hashbag_slots.specs.declared.slots.Slot.TheVariants.{Empty, Moved}
use Rattle.hashbag_slots.specs.Slots.{is_live, live_count, slot_at, slot_entry, moved, entries, PlacesAlong, PlacesAll, AreApart}
use Rattle.hashbag_slots.proofs.Carrying.{AreApart-carry, Carries-one, entries_in_one, carried_same, no_entries, length-Places, live-Places, removed-Places}
use Rattle.hashbag_slots.proofs.Edits.{count-set}
use Rattle.hashbag_slots.proofs.Paths.{path_below}
use Rattle.hashbag_slots.proofs.slots.Slots.carry_slot.Goals.{After-take_leaving-value}
use Rattle.hashbag_slots.proofs.slots.Slots.carry_slot.Goals as goal

-- the value that was hashed is the one that was taken
same : (g : _) (c : After-take_leaving-value g) → c.live_at.result.0.now ≡ c.take_leaving-value.result.0
same g c = let is = c.live_at.ensures ∙ ap slot_entry c.take_leaving-value.ensures.taken in cc

hashed : (g : _) (c : After-take_leaving-value g) → c.hash_of-hash.result ≡ hash_under g.T.Hash.hash_input g.S.BuildHasher g.S.Hasher.Hasher c.args.state.now c.take_leaving-value.result.0
unfolding hash_under
hashed g c = c.hash_of-hash.ensures ∙ ap (hash_under g.T.Hash.hash_input g.S.BuildHasher g.S.Hasher.Hasher c.args.state.now) (same g c)

pub place_hashed-requires-clause-hashed : goal.place_hashed-requires-clause-hashed
place_hashed-requires-clause-hashed g c = hashed g (goal.at.place_hashed-requires-clause-hashed g c).After-take_leaving-value

pub place_hashed-requires-clause-absent : goal.place_hashed-requires-clause-absent
place_hashed-requires-clause-absent g c = c.requires.apart c.args.at _ _ c.take_leaving-value.ensures.taken

pub returns-then-is_live_at : goal.returns-then-is_live_at
returns-then-is_live_at g c =
    let hash : g.row.T.Denot → ℕ = hash_under g.T.Hash.hash_input g.S.BuildHasher g.S.Hasher.Hasher c.args.state.now in
    let at = c.args.at in let older = c.args.older.now.slots in let left = c.take_leaving-value.new.self.slots in
    let old = c.args.self.now.slots in let new = c.place_hashed.new.self.slots in
    let taken = c.take_leaving-value.ensures.taken in let after = c.take_leaving-value.ensures.after in
    let put = c.place_hashed.ensures.placed in
    let to = subst (λ h. PlacesAlong h c.take_leaving-value.result.0 c.take_leaving-value.result.1 old new) (hashed g (goal.at.returns-then-is_live_at g c).After-take_leaving-value) c.place_hashed.ensures.first in let first = to.1 in let step = first.within in let on = first.on_path in
    let below = path_below (length old) (hash c.take_leaving-value.result.0) first.step (omega (arith, step)) in
    record {
      placed = subst (λ es. PlacesAll hash es old new) (sym (entries_in_one at older c.requires.within ∙ ap (λ s. entries (s ∷ [])) taken))
          (new, record { places = record { at = to.0; within = omega (arith, below, on); free = first.free; after = to.2 }; first = first }, refl);
      left = Carries-one at older left c.requires.within (after ∙ sym (ap (λ s. slice_set older at (moved s)) taken));
      apart = subst (λ ss. AreApart g.T.PartialEq.eq ss new) (sym after)
          (AreApart-carry g.T.PartialEq.eq older old new at _ _ c.is_live_at.ensures.distinct c.requires.apart c.requires.within taken put);
      sum =
          let one = live-Places _ _ old new put in
          let less = rw taken at (count-set older at Moved c.requires.within is_live) in
          let seen = ap live_count after in omega (arith, one, less, seen);
      removed = removed-Places _ _ old new put;
      slots = length-Places _ _ old new put;
      reached = c.place_hashed.ensures.reached;
      older_reached = c.take_leaving-value.ensures.reached;
    }

pub returns-else-is_live_at : goal.returns-else-is_live_at
returns-else-is_live_at g c =
    let hash : g.row.T.Denot → ℕ = hash_under g.T.Hash.hash_input g.S.BuildHasher g.S.Hasher.Hasher c.args.state.now in
    let at = c.args.at in let older = c.args.older.now.slots in let old = c.args.self.now.slots in
    let dead : is_live (slot_at older at) ≡ false = sym c.is_live_at.ensures.live ∙ c.if-is_live_at.false in
    record {
      placed = subst (λ es. PlacesAll hash es old old) (sym (entries_in_one at older c.requires.within ∙ no_entries (slot_at older at) dead)) refl;
      left = Carries-one at older older c.requires.within (sym (ap (slice_set older at) (carried_same (slot_at older at) dead) ∙ set-get_or older at Empty));
      apart = c.requires.apart;
      sum = refl;
      removed = omega arith;
      slots = refl;
      reached = c.requires.reached;
      older_reached = λ h r. r;
    }
