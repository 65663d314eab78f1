-- The map of the Live slots, and the place of a value.
use Rattle.std.proofs.Common.{◌≡◌, ℕ, zero, suc, Bool, true, false, cond, List, [], ◌∷◌, Option, Some, None, refl, sym, ap, ◌∙◌, arith}
use Rattle.std.specs.Map.{lookup_entry}
use Rattle.std.specs.Option.{IfSome, IfNone}
use Rattle.hashbag_slots.specs.declared.probe.Probed.{Probed}
use Rattle.hashbag_slots.specs.declared.probe.Probed.TheVariants.{Found, Absent, Full}
use Rattle.hashbag_slots.specs.declared.slots.Slot.{Slot}
use Rattle.hashbag_slots.specs.declared.slots.Slot.TheVariants.{Empty, Removed, Moved, Live}
use Rattle.hashbag_slots.specs.Probed.{IfFound}
use Rattle.hashbag_slots.specs.Slots.{is_live, holds, slot_at, HoldsAt, IsAbsent, IsSet, slot_entry, entry_at, entries}
use Rattle.hashbag_slots.proofs.Probing.{holder}

-- a slot that is not Live has no entry
pub no_entry : {T : Type 0} (s : Slot T) → is_live s ≡ false → slot_entry s ≡ None
no_entry Empty h = refl
no_entry Removed h = refl
no_entry Moved h = refl
no_entry (Live v n) h = absurd (cc)

module _ {T : Type 0} (test : T → Bool) where
  first_true : (b : Bool) (e : T × ℕ) (r : Option (T × ℕ)) → b ≡ true → cond b (Some e) r ≡ Some e
  first_true b e r h = ap (λ c. cond c (Some e) r) h

  first_false : (b : Bool) (e : T × ℕ) (r : Option (T × ℕ)) → b ≡ false → cond b (Some e) r ≡ r
  first_false b e r h = ap (λ c. cond c (Some e) r) h

  skip : (s : Slot T) (ss : List (Slot T)) → holds test s ≡ false → lookup_entry test (entries (s ∷ ss)) ≡ lookup_entry test (entries ss)
  skip Empty ss h = refl
  skip Removed ss h = refl
  skip Moved ss h = refl
  skip (Live v n) ss h = first_false (test v) (v, n) (lookup_entry test (entries ss)) h

  stop : (s : Slot T) (ss : List (Slot T)) → holds test s ≡ true → lookup_entry test (entries (s ∷ ss)) ≡ slot_entry s
  stop Empty ss h = absurd (cc)
  stop Removed ss h = absurd (cc)
  stop Moved ss h = absurd (cc)
  stop (Live v n) ss h = first_true (test v) (v, n) (lookup_entry test (entries ss)) h

  false_or : (b : Bool) → (b ≡ true → ⊥) → b ≡ false
  false_or true h = absurd (h refl)
  false_or false h = refl

  pub lookup-HoldsAt : (ss : List (Slot T)) (p : ℕ) → HoldsAt test ss p → ((q : ℕ) → holds test (slot_at ss q) ≡ true → q ≡ p) → lookup_entry test (entries ss) ≡ slot_entry (slot_at ss p)
  lookup-HoldsAt [] p h one = absurd (let z = h.0 in omega arith)
  lookup-HoldsAt (s ∷ ss) zero h one = stop s ss h.1
  lookup-HoldsAt (s ∷ ss) (suc p) h one =
      let passed : holds test s ≡ false = false_or _ (λ yes. let z = one 0 yes in omega arith) in
      skip s ss passed ∙ lookup-HoldsAt ss p (let z = h.0 in omega arith, h.1) (λ q yes. let z = one (suc q) yes in omega arith)

  pub lookup-IsAbsent : (ss : List (Slot T)) → IsAbsent test ss → lookup_entry test (entries ss) ≡ None
  lookup-IsAbsent [] h = refl
  lookup-IsAbsent (s ∷ ss) h = skip s ss (h 0 (omega arith)) ∙ lookup-IsAbsent ss (λ p lt. h (suc p) (omega arith))

-- `one`: of what passes the test all that are equal pass, and nothing else
module _ {T : Type 0} (eq : T → T → Bool) (ss : List (Slot T)) (set : IsSet eq ss) (test : T → Bool) (one : (v w : T) → test v ≡ true → test w ≡ eq w v) where
  -- what a look-up answers is the entry of the map
  pub entry_at-lookup : (r : Option ℕ) → IfSome r (HoldsAt test ss) → IfNone r (IsAbsent test ss) → entry_at ss r ≡ lookup_entry test (entries ss)
  entry_at-lookup None some none = sym (lookup-IsAbsent test ss none)
  entry_at-lookup (Some p) some none =
      let at_p = holder test (slot_at ss p) some.1 in
      sym (lookup-HoldsAt test ss p some (λ q yes.
      let at_q = holder test (slot_at ss q) yes in
      set.apart q p at_q.0 at_p.0 at_q.1 at_p.1 at_q.2 at_p.2 (sym (one at_p.0 at_q.0 at_p.3) ∙ at_q.3)))

  -- the same of a place alone
  pub known-lookup : (r : Probed) → IfFound r (HoldsAt test ss) → IfFound r (λ p. slot_entry (slot_at ss p) ≡ lookup_entry test (entries ss))
  known-lookup (Found p) some = entry_at-lookup (Some p) some tt
  known-lookup (Absent p) some = tt
  known-lookup Full some = tt
