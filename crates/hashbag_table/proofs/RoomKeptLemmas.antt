-- A slot that is written keeps room: a Live one stays Live, or becomes Removed.
use Rattle.std.proofs.Common.{◌≡◌, ℕ, ◌+◌, ◌<◌, ◌≤◌, cond, Bool, List, length, refl, sym, ap, subst, ◌∙◌, arith, slice_set}
use Rattle.std.proofs.lemmas.List.{length-set}
use Rattle.hashbag_slots.specs.declared.slots.Slot.{Slot}
use Rattle.hashbag_slots.specs.declared.slots.Slot.TheVariants.{Live}
use Rattle.hashbag_slots.specs.Slots.{is_live, is_removed, live_count, removed_count, slot_at}
use Rattle.hashbag_slots.proofs.Edits.{count-set}
use Rattle.hashbag_slots.proofs.Probing.{holder}
use Rattle.hashbag_table.specs.Tables.{Tables, most_used, room, slot_in, HoldsIn, Writes, Rewrites, Arrives, KeepsRoom}
use Rattle.hashbag_table.specs.declared.table.Spot.{Spot}
use Rattle.hashbag_table.specs.declared.table.Spot.TheVariants.{Newer, Waiting}

-- 1 for a yes
abbrev one_if : Bool → ℕ
one_if b = cond b 1 0

module _ {T : Type 0} where
  -- the slot counts as used: it is Live or Removed
  abbrev pub IsTaken : Slot T → Type 0
  IsTaken s = one_if (is_live s) + one_if (is_removed s) ≡ 1

  module _ (ss : List (Slot T)) (p : ℕ) (s : Slot T) (v : T) (n : ℕ) (within : p < length ss) (was : slot_at ss p ≡ Live v n) (taken : IsTaken s) where
    pub same_taken : live_count (slice_set ss p s) + removed_count (slice_set ss p s) ≡ live_count ss + removed_count ss
    same_taken =
        let a = count-set ss p s within is_live in let b = count-set ss p s within is_removed in
        let c : one_if (is_live (slot_at ss p)) ≡ 1 = ap (λ x. one_if (is_live x)) was in
        let d : one_if (is_removed (slot_at ss p)) ≡ 0 = ap (λ x. one_if (is_removed x)) was in
        omega (arith, a, b, c, d, taken)

    no_more_live : live_count (slice_set ss p s) ≤ live_count ss
    no_more_live =
        let a = count-set ss p s within is_live in
        let c : one_if (is_live (slot_at ss p)) ≡ 1 = ap (λ x. one_if (is_live x)) was in
        omega (arith, a, c, taken)

    pub kept_newer : (old new : Tables T) → old.newer ≡ ss → new.newer ≡ slice_set ss p s → new.waiting ≡ old.waiting → new.built ≡ old.built → KeepsRoom 0 old new
    kept_newer old new here now same built =
        let len : length new.newer ≡ length old.newer = ap length now ∙ length-set ss p s ∙ ap length (sym here) in
        let lim : most_used (length new.newer) ≡ most_used (length old.newer) = ap most_used len in
        let a : live_count new.newer ≡ live_count (slice_set ss p s) = ap live_count now in let b : removed_count new.newer ≡ removed_count (slice_set ss p s) = ap removed_count now in
        let c : live_count old.newer ≡ live_count ss = ap live_count here in let d : removed_count old.newer ≡ removed_count ss = ap removed_count here in
        let e : live_count new.waiting ≡ live_count old.waiting = ap live_count same in
        let sum = same_taken in
        record { slots = len; room = omega (arith, lim, a, b, c, d, e, sum); built = built }

    pub kept_waiting : (old new : Tables T) → old.waiting ≡ ss → new.newer ≡ old.newer → new.waiting ≡ slice_set ss p s → new.built ≡ old.built → KeepsRoom 0 old new
    kept_waiting old new here same now built =
        let a : live_count new.waiting ≡ live_count (slice_set ss p s) = ap live_count now in
        let b : live_count old.waiting ≡ live_count ss = ap live_count here in
        let c : live_count new.newer ≡ live_count old.newer = ap live_count same in let d : removed_count new.newer ≡ removed_count old.newer = ap removed_count same in
        let lim : most_used (length new.newer) ≡ most_used (length old.newer) = ap (λ l. most_used (length l)) same in
        let fewer = no_more_live in
        record { slots = ap length same; room = omega (arith, lim, a, b, c, d, fewer); built = built }

  -- what changes a slot so keeps the slots and the room
  pub kept_Rewrites : (test : T → Bool) (change : Slot T → Slot T) (old new : Tables T) → ((v : T) (n : ℕ) → IsTaken (change (Live v n))) → Rewrites test change old new → KeepsRoom 0 old new
  kept_Rewrites test change old new taken w = at w.spot w.held w.after where
    at : (spot : Spot) → HoldsIn test old spot → Writes spot (change (slot_in old spot)) old new → KeepsRoom 0 old new
    at (Newer p) held after =
        let l = holder test (slot_at old.newer p) held.1 in
        kept_newer old.newer p (change (Live l.0 l.1)) l.0 l.1 held.0 l.2 (taken l.0 l.1) old new refl (after.0 ∙ ap (λ x. slice_set old.newer p (change x)) l.2) after.1 after.2
    at (Waiting p) held after =
        let l = holder test (slot_at old.waiting p) held.1 in
        kept_waiting old.waiting p (change (Live l.0 l.1)) l.0 l.1 held.0 l.2 (taken l.0 l.1) old new refl after.0 (after.1 ∙ ap (λ x. slice_set old.waiting p (change x)) l.2) after.2

  -- tables that stay keep their room, and who keeps all of it keeps it but for k values
  pub keeps_same : (k : ℕ) (t : Tables T) → KeepsRoom k t t
  keeps_same k t = record { slots = refl; room = omega arith; built = refl }

  pub keeps_more : (k : ℕ) (old new : Tables T) → KeepsRoom 0 old new → KeepsRoom k old new
  keeps_more k old new h = let r = h.room in record { slots = h.slots; room = omega (arith, r); built = h.built }

  pub keeps_as : (k : ℕ) (old new : Tables T) → new ≡ old → KeepsRoom k old new
  keeps_as k old new e = subst (λ t. KeepsRoom k old t) (sym e) (keeps_same k old)

  -- an absent value takes one of the room at most, where there was some
  pub keeps_Arrives : (old new : Tables T) → Arrives old new → 0 < room old → KeepsRoom 1 old new
  keeps_Arrives old new came some = record { slots = (came.with_room some).fills.same_length; room = came.room_kept some; built = came.built.with_room some }
