-- Numbers of slots.
use Rattle.std.proofs.Common.{◌≡◌, ℕ, suc, ◌*◌, ◌^◌, ◌<◌, ◌≤◌, ◌⊎◌, cond, nat_le, refl, sym, ap, subst, ◌∙◌, inl, inr, arith, pow-suc}
use Rattle.hashbag_slots.specs.Slots.{IsSlotCount}
use lib.Pow.{pow_mono}
use Rattle.std.proofs.lemmas.Bool.{cases_lt}
use Rattle.std.proofs.lemmas.Bool.{ne_eqb, le-leb, lt-leb}
use Rattle.hashbag_table.specs.Tables.{most_used, grown_slots, Roomy}

pub IsSlotCount-16 : IsSlotCount 16
IsSlotCount-16 = inr (4, omega arith, omega arith, refl)

pub slot_count_least : (n : ℕ) → IsSlotCount n → (n ≡ 0) ⊎ (16 ≤ n)
slot_count_least n c = elim c [
  | inl z ↦ inl z
  | inr w ↦ let m : 2 ^ 4 ≤ 2 ^ w.0 = pow_mono {i = 4} {j = w.0} w.1 in inr (omega (arith, m, w.3))
]

pub IsSlotCount-double : (n : ℕ) → IsSlotCount n → n < 2 ^ 59 → (n ≡ 0 → ⊥) → IsSlotCount (2 * n)
IsSlotCount-double n c small some = elim c [
  | inl z ↦ absurd (some z)
  | inr w ↦ elim (cases_lt w.0 59) [
    | inl lt ↦ inr (suc w.0, omega arith, omega arith, let z = pow-suc 2 w.0 in omega (arith, z, w.3))
    | inr ge ↦ absurd (let e : w.0 ≡ 59 = let le = w.2 in omega arith in let z : n ≡ 2 ^ 59 = w.3 ∙ ap (λ j. 2 ^ j) e in omega arith)
  ]
]

pub grown_none : (n s : ℕ) → n ≡ 0 → grown_slots n s ≡ 16
grown_none n s e = ap (λ m. grown_slots m s) e

pub grown_same : (n s : ℕ) → 0 < n → 8 * s ≤ 3 * n → grown_slots n s ≡ n
grown_same n s pos few =
    ap (λ b. cond b 16 (cond (nat_le (8 * s) (3 * n)) n (2 * n))) (ne_eqb n 0 (λ e. omega arith)) ∙ ap (λ b. cond b n (2 * n)) (le-leb (8 * s) (3 * n) few)

pub grown_double : (n s : ℕ) → 0 < n → 3 * n < 8 * s → grown_slots n s ≡ 2 * n
grown_double n s pos many =
    ap (λ b. cond b 16 (cond (nat_le (8 * s) (3 * n)) n (2 * n))) (ne_eqb n 0 (λ e. omega arith)) ∙ ap (λ b. cond b n (2 * n)) (lt-leb (8 * s) (3 * n) many)

pub Roomy_at : (n s m k : ℕ) → m ≡ k → Roomy n s k → Roomy n s m
Roomy_at n s m k e h = subst (Roomy n s) (sym e) h

pub grown_room : (n s : ℕ) → IsSlotCount n → s ≤ most_used n → Roomy n s (grown_slots n s)
grown_room n s c le = elim (slot_count_least n c) [
  | inl z ↦ Roomy_at n s _ _ (grown_none n s z) (record { some = omega arith; carries = omega arith; smaller = omega arith })
  | inr ge ↦ elim (cases_lt (3 * n) (8 * s)) [
    | inl many ↦ Roomy_at n s _ _ (grown_double n s (omega arith) many) (record { some = omega arith; carries = omega arith; smaller = omega arith })
    | inr few ↦ Roomy_at n s _ _ (grown_same n s (omega arith) few) (record { some = omega arith; carries = omega arith; smaller = omega arith })
  ]
]
