-- A write to one slot.
use Rattle.std.proofs.Common.{◌≡◌, ◌≢◌, ℕ, ◌+◌, ◌<◌, ◌⊎◌, Bool, false, cond, List, length, sym, ap, subst, ◌∙◌, inl, inr, slice_set}
use Rattle.std.specs.List.{count_by}
use Rattle.std.proofs.lemmas.Bool.{cases_eq}
use Rattle.std.proofs.lemmas.List.{get_or-set_same, get_or-set_other, length-set}
use Rattle.std.proofs.lemmas.List.Sums.{sum_by-set}
use Rattle.hashbag_slots.specs.declared.slots.Slot.{Slot}
use Rattle.hashbag_slots.specs.declared.slots.Slot.TheVariants.{Empty, Live}
use Rattle.hashbag_slots.specs.Slots.{path_slot, slot_at, IsPathRule, KeepsPaths, IsSet}

module _ {T : Type 0} (ss : List (Slot T)) (p : ℕ) (s : Slot T) (within : p < length ss) where
  pub set_cases : (q : ℕ) → ((q ≡ p) × (slot_at (slice_set ss p s) q ≡ s)) ⊎ ((q ≡ p → ⊥) × (slot_at (slice_set ss p s) q ≡ slot_at ss q))
  set_cases q =
      elim (cases_eq q p) [
        | inl e ↦ inl (e, ap (slot_at (slice_set ss p s)) e ∙ get_or-set_same ss p s Empty within)
        | inr ne ↦ inr (ne, get_or-set_other ss p q s Empty ne)
      ]

  pub count-set : (f : Slot T → Bool) → count_by f (slice_set ss p s) + cond (f (slot_at ss p)) 1 0 ≡ count_by f ss + cond (f s) 1 0
  count-set f = sum_by-set (λ x. cond (f x) 1 0) ss p s Empty within

  -- the values stay apart, where a new one is not equal to those at other places
  pub IsSet-set : (eq : T → T → Bool) → ((v w : T) → eq v w ≡ eq w v) → IsSet eq ss
      → ((v w : T) (n m q : ℕ) → s ≡ Live v n → (q ≡ p → ⊥) → slot_at ss q ≡ Live w m → eq v w ≡ false)
      → ((v : T) (n : ℕ) → s ≡ Live v n → 0 < n) → IsSet eq (slice_set ss p s)
  IsSet-set eq symm old other counted = record {
    apart = λ a b v w m n at_a at_b same.
        elim (set_cases a) [
          | inl x ↦ elim (set_cases b) [
            | inl y ↦ x.0 ∙ sym y.0
            | inr y ↦ let no = other v w m n b (sym x.1 ∙ at_a) y.0 (sym y.1 ∙ at_b) in absurd (cc)
          ]
          | inr x ↦ elim (set_cases b) [
            | inl y ↦ let no = other w v n m a (sym y.1 ∙ at_b) x.0 (sym x.1 ∙ at_a) in let turned = symm v w in absurd (cc)
            | inr y ↦ old.apart a b v w m n (sym x.1 ∙ at_a) (sym y.1 ∙ at_b) same
          ]
        ];
    positive = λ a v n at_a.
        elim (set_cases a) [
          | inl x ↦ counted v n (sym x.1 ∙ at_a)
          | inr x ↦ old.positive a v n (sym x.1 ∙ at_a)
        ];
  }

  -- the path rule stays, where the new slot is not Empty, and if it is Live its path has no Empty slot before it
  pub IsPathRule-set : (hash : T → ℕ) → KeepsPaths hash ss → s ≢ Empty
      → ((v : T) (n step : ℕ) → s ≡ Live v n → step < length ss → path_slot (length ss) (hash v) step ≡ p
      → (before : ℕ) → before < step → slot_at ss (path_slot (length ss) (hash v) before) ≢ Empty)
      → KeepsPaths hash (slice_set ss p s)
  IsPathRule-set hash old full reached =
      let rule : IsPathRule (length ss) hash (slice_set ss p s) = record {
        path = λ v n step lt here before earlier.
            elim (set_cases (path_slot (length ss) (hash v) before)) [
              | inl x ↦ λ empty. full (sym x.1 ∙ empty)
              | inr x ↦ λ empty.
                  elim (set_cases (path_slot (length ss) (hash v) step)) [
                    | inl y ↦ reached v n step (sym y.1 ∙ here) lt y.0 before earlier (sym x.1 ∙ empty)
                    | inr y ↦ old.path v n step lt (sym y.1 ∙ here) before earlier (sym x.1 ∙ empty)
                  ]
            ];
      } in
      subst (λ n. IsPathRule n hash (slice_set ss p s)) (sym (length-set ss p s)) rule
