use Rattle.std.proofs.Common.{◌≡◌, ℕ, ◌+◌, ◌-◌, ◌<◌, ◌≤◌, Bool, true, false, cond, nat_eq, length, get_or, Some, refl, sym, ap, subst, ◌∙◌, arith, slice_set, take}
use Rattle.std.proofs.lemmas.List.{get_or_read}
use Rattle.std.proofs.lemmas.List.Sums.{count_by-le-length}
use Rattle.core.specs.Int.{from_bool}
use Rattle.hashbag_slots.specs.Hashing.{hash_under}
use Rattle.hashbag_slots.specs.declared.slots.Slot.TheVariants.{Live}
use Rattle.hashbag_slots.specs.Slots.{path_slot, is_live, slot_at, IsAbsent, IsFirstFree}
use Rattle.hashbag_slots.specs.Columns.{fingerprint_of, columns, slots_of, IsColumns, IsReached}
use Rattle.hashbag_slots.proofs.Guards.{set-take, stored, length-first, first_tag, guarded_set}
use Rattle.hashbag_slots.proofs.Paths.{count_bound}
use Rattle.hashbag_slots.proofs.Reading.{length-slots_of, dead_at, removed_at, no_cell, IsFirstLow, first_free}
use Rattle.hashbag_slots.proofs.Tables.{some_removed}
use Rattle.hashbag_slots.proofs.Writing.{set-slots_of, IsColumns-put, IsReached-place}
use Rattle.hashbag_slots.proofs.slots.Slots.place_at.Goals.{After-fingerprint_of, After-from, After-index}
use Rattle.hashbag_slots.proofs.slots.Slots.place_at.Goals as goal

-- what the comparison counts for
counts : (b : Bool) → from_bool b ≡ cond b 1 0
counts false = refl
counts true = refl

one_of : (b : Bool) (n : ℕ) → (b ≡ true → 1 ≤ n) → cond b 1 0 ≤ n
one_of false n some = omega arith
one_of true n some = some refl

-- the place is the first on the path whose tag is no fingerprint
first : (g : _) (c : goal.After-index g) → IsFirstLow (take c.self.inside.slots c.self.inside.tags.items) c.args.hash c.args.place
first g c =
    let i = c.self.inside in
    first_free (take i.slots i.tags.items) i.cells c.self.invariant.shown.agree c.args.hash c.args.place (subst (λ s. IsFirstFree c.args.hash s.slots c.args.place) (sym c.self.view_is) c.requires.free)

-- the place is that of a slot
within : (g : _) (c : goal.After-index g) → c.args.place < c.self.inside.slots
within g c = let bound = (first g c).bound in let long = length-first c.self.inside.slots c.self.inside.tags.items c.self.invariant.guarded in omega arith

-- the byte that was read is the slot's tag
tag : (g : _) (c : goal.After-index g) → c.index.result.now ≡ get_or (take c.self.inside.slots c.self.inside.tags.items) c.args.place 0
tag g c =
    let i = c.self.inside in let below = within g c in let room = stored i.slots i.tags.items c.self.invariant.guarded in
    get_or_read i.tags.items c.args.place c.index.result.now (omega arith) c.index.ensures 0 ∙ sym (first_tag i.slots i.tags.items c.self.invariant.guarded c.args.place below)

-- the tags of the slots after the write
tags : (g : _) (c : goal.After-fingerprint_of g) → take c.self.inside.slots (slice_set c.self.inside.tags.items c.args.place c.fingerprint_of.result) ≡ slice_set (take c.self.inside.slots c.self.inside.tags.items) c.args.place c.fingerprint_of.result
tags g c = set-take c.self.inside.tags.items c.self.inside.slots c.args.place c.fingerprint_of.result (within g (goal.at.After-fingerprint_of g c).After-index)

-- a Removed slot counts
one : (g : _) (c : goal.After-from g) → c.from.result ≡ cond (nat_eq (get_or (take c.self.inside.slots c.self.inside.tags.items) c.args.place 0) 1) 1 0
one g c = c.from.ensures ∙ counts (nat_eq c.index.result.now 1) ∙ ap (λ t. cond (nat_eq t 1) 1 0) (tag g (goal.at.After-from g c).After-index)

pub index-requires : goal.index-requires
index-requires g c =
    let ts = (take c.self.inside.slots c.self.inside.tags.items) in let free = subst (λ s. IsFirstFree c.args.hash s.slots c.args.place) (sym c.self.view_is) c.requires.free in
    let bound = (first_free ts c.self.inside.cells c.self.invariant.shown.agree c.args.hash c.args.place free).bound in
    let first = length-first c.self.inside.slots c.self.inside.tags.items c.self.invariant.guarded in let room = stored c.self.inside.slots c.self.inside.tags.items c.self.invariant.guarded in omega arith

pub index_mut-requires : goal.index_mut-requires
index_mut-requires g c = let bound = (first g (goal.at.index_mut-requires g c).After-index).bound in let o = c.self.inside.tags.ok.0 in
    let first = length-first c.self.inside.slots c.self.inside.tags.items c.self.invariant.guarded in let room = stored c.self.inside.slots c.self.inside.tags.items c.self.invariant.guarded in omega arith

pub put-requires-clause-within : goal.put-requires-clause-within
put-requires-clause-within g c = let bound = (first g (goal.at.put-requires-clause-within g c).After-index).bound in let same = c.self.invariant.shown.agree.same_length in omega arith

pub put-requires-clause-empty : goal.put-requires-clause-empty
put-requires-clause-empty g c = no_cell (take c.self.inside.slots c.self.inside.tags.items) c.self.inside.cells c.self.invariant.shown.agree c.args.place (first g (goal.at.put-requires-clause-empty g c).After-index).free

pub overflow_add-self : goal.overflow_add-self
overflow_add-self g c =
    let ss = slots_of (take c.self.inside.slots c.self.inside.tags.items) c.self.inside.cells in
    let few = count_by-le-length is_live ss in let bound = count_bound _ c.self.invariant.shown.table.count in let is = c.self.invariant.shown.table.live_is in
    record { fits = omega arith }

pub overflow_sub-self : goal.overflow_sub-self
overflow_sub-self g c =
    let ts = (take c.self.inside.slots c.self.inside.tags.items) in let cs = c.self.inside.cells in let at = c.args.place in
    let low = first g (goal.at.overflow_sub-self g c).After-index in let bound = low.bound in
    let len = length-slots_of ts cs c.self.invariant.shown.agree.same_length in let is = c.self.invariant.shown.table.removed_is in let so = one g (goal.at.overflow_sub-self g c).After-from in
    let some = one_of (nat_eq (get_or ts at 0) 1) _ (λ yes. some_removed (slots_of ts cs) at (omega arith) (removed_at ts cs c.self.invariant.shown.agree at low.free ∙ yes)) in
    omega arith

pub invariant_of-self : goal.invariant_of-self
invariant_of-self g c =
    let eq = g.T.PartialEq.eq in
    let i = c.self.inside in let ts = (take i.slots i.tags.items) in let at = c.args.place in let fingerprint = c.fingerprint_of.result in
    let v = c.args.value in let n : ℕ = c.args.n in let live : ℕ = i.live in let removed : ℕ = i.removed in
    let low = first g (goal.at.invariant_of-self g c).After-index in
    record {
      shown = subst (λ us. IsColumns eq us c.put.new.self (live + 1) (removed - c.from.result)) (sym (tags g (goal.at.invariant_of-self g c).After-fingerprint_of))
          (subst (λ ds. IsColumns eq (slice_set ts at fingerprint) ds (live + 1) (removed - c.from.result)) (sym c.put.ensures)
          (subst (λ k. IsColumns eq (slice_set ts at fingerprint) (slice_set i.cells at (Some (v, n))) (live + 1) (removed - k)) (sym (one g (goal.at.invariant_of-self g c).After-from))
          (IsColumns-put eq g.met.T.Eq.laws ts i.cells live removed at c.self.invariant.shown v n fingerprint low.bound low.free c.fingerprint_of.ensures.least
          (subst (λ s. IsAbsent (eq v) s.slots) (sym c.self.view_is) c.requires.absent) c.requires.positive)));
      guarded = guarded_set i.slots i.tags.items c.self.invariant.guarded at fingerprint (within g (goal.at.invariant_of-self g c).After-index);
    }

pub returns-clause-after : goal.returns-clause-after
returns-clause-after g c =
    let i = c.self.inside in let at = c.args.place in let t = c.fingerprint_of.result in let v = c.args.value in let n : ℕ = c.args.n in
    ap (λ us. slots_of us c.put.new.self) (tags g (goal.at.returns-clause-after g c).After-fingerprint_of) ∙ ap (slots_of (slice_set (take i.slots i.tags.items) at t)) c.put.ensures ∙ set-slots_of (take i.slots i.tags.items) i.cells at t (Some (v, n)) c.self.invariant.shown.agree.same_length ∙ ap (λ s. slice_set s.slots at (Live v n)) c.self.view_is

pub returns-clause-placed : goal.returns-clause-placed
returns-clause-placed g c =
    let i = c.self.inside in let low = first g (goal.at.returns-clause-placed g c).After-index in let bound = low.bound in let len = length-slots_of (take i.slots i.tags.items) i.cells c.self.invariant.shown.agree.same_length in
    record {
      at = c.args.place;
      within = let l = ap (λ s. length s.slots) c.self.view_is in omega arith;
      free = sym (ap (λ s. is_live (slot_at s.slots c.args.place)) c.self.view_is) ∙ dead_at (take i.slots i.tags.items) i.cells c.self.invariant.shown.agree c.args.place low.free;
      after = returns-clause-after g c;
    }

pub returns-clause-reached : goal.returns-clause-reached
returns-clause-reached g c =
    let hash : g.row.T.Denot → ℕ = hash_under g.T.Hash.hash_input g.S.BuildHasher g.S.Hasher.Hasher c.args.state.now in
    let ts = (take c.self.inside.slots c.self.inside.tags.items) in let at = c.args.place in let fingerprint = c.fingerprint_of.result in
    let v = c.args.value in let low = first g (goal.at.returns-clause-reached g c).After-index in
    let hashed : c.args.hash ≡ hash v = c.requires.hashed in
    let reached = subst (IsReached hash) (sym c.self.view_is) c.requires.reached in
    let done = IsReached-place ts c.self.inside.cells c.self.invariant.shown.agree hash reached v c.args.n fingerprint at low.step low.bound low.within (low.on_path ∙ ap (λ h. path_slot (length ts) h low.step) hashed) (c.fingerprint_of.ensures.fingerprint ∙ ap (λ h. fingerprint_of h) hashed)
    (λ before lt. subst (λ h. 128 ≤ get_or ts (path_slot (length ts) h before) 0) hashed (low.front before lt)) in
    subst (λ us. IsReached hash (columns us c.put.new.self)) (sym (tags g (goal.at.returns-clause-reached g c).After-fingerprint_of))
    (subst (λ ds. IsReached hash (columns (slice_set ts at fingerprint) ds)) (sym c.put.ensures) done)
