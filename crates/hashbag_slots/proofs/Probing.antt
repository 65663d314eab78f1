-- What a probe has shown where it ends.
use Rattle.std.proofs.Common.{◌≡◌, ℕ, ◌<◌, Bool, true, false, List, length, refl, sym, ap, ◌∙◌, inl, inr, arith}
use Rattle.std.proofs.lemmas.Bool.{cases_lt}
use Rattle.hashbag_slots.specs.declared.slots.Slot.{Slot}
use Rattle.hashbag_slots.specs.declared.slots.Slot.TheVariants.{Empty, Removed, Moved, Live}
use Rattle.hashbag_slots.specs.Slots.{path_slot, is_live, holds, slot_at, IsAbsent, KeepsPaths}
use Rattle.hashbag_slots.proofs.Paths.{path_to}

pub false_by : (b : Bool) → (b ≡ true → b ≡ false) → b ≡ false
false_by true h = h refl
false_by false h = refl

module _ {T : Type 0} where
  pub holder : (test : T → Bool) (s : Slot T) → holds test s ≡ true → (v : T) × (n : ℕ) × (s ≡ Live v n) × (test v ≡ true)
  holder test Empty h = cc
  holder test Removed h = cc
  holder test Moved h = cc
  holder test (Live v n) h = (v, n, refl, h)

  pub holds_dead : (test : T → Bool) (s : Slot T) → is_live s ≡ false → holds test s ≡ false
  holds_dead test Empty h = refl
  holds_dead test Removed h = refl
  holds_dead test Moved h = refl
  holds_dead test (Live v n) h = absurd (cc)

-- `alike`: what passes the test has the hash h
module _ {T : Type 0} (test : T → Bool) (hash : T → ℕ) (h : ℕ) (alike : (v : T) → test v ≡ true → hash v ≡ h) (ss : List (Slot T)) where
  abbrev Passed : ℕ → Type 0
  Passed step = (k : ℕ) → k < step → holds test (slot_at ss (path_slot (length ss) h k)) ≡ false

  -- every slot was looked at
  pub absent_at_end : Passed (length ss) → IsAbsent test ss
  absent_at_end passed p lt =
      let j = path_to (length ss) h p lt in
      ap (λ q. holds test (slot_at ss q)) (sym j.2) ∙ passed j.0 j.1

  -- the probe met an Empty slot
  pub absent_at_stop : KeepsPaths hash ss → (step : ℕ) → Passed step → slot_at ss (path_slot (length ss) h step) ≡ Empty → IsAbsent test ss
  absent_at_stop paths step passed stop p lt =
      let j = path_to (length ss) h p lt in
      let at : (q : ℕ) → q ≡ p → holds test (slot_at ss q) ≡ false → holds test (slot_at ss p) ≡ false = λ q e no. ap (λ r. holds test (slot_at ss r)) (sym e) ∙ no in
      elim (cases_lt j.0 step) [
        | inl before ↦ at _ j.2 (passed j.0 before)
        | inr after ↦ elim (cases_lt step j.0) [
          | inl beyond ↦ false_by _ (λ yes.
              let found = holder test (slot_at ss p) yes in
              let same : hash found.0 ≡ h = alike found.0 found.3 in
              let here : slot_at ss (path_slot (length ss) (hash found.0) j.0) ≡ Live found.0 found.1 = ap (λ k. slot_at ss (path_slot (length ss) k j.0)) same ∙ ap (slot_at ss) j.2 ∙ found.2 in
              absurd (paths.path found.0 found.1 j.0 j.1 here step beyond (ap (λ k. slot_at ss (path_slot (length ss) k step)) same ∙ stop)))
          | inr same ↦
              let e : j.0 ≡ step = omega arith in
              at _ j.2 (ap (λ k. holds test (slot_at ss (path_slot (length ss) h k))) e ∙ ap (holds test) stop)
        ]
      ]
