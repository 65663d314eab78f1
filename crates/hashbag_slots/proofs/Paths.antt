-- Places on the path of a probe.
use Rattle.std.proofs.Common.{◌≡◌, ℕ, ◌+◌, ◌-◌, ◌%◌, ◌^◌, ◌<◌, ◌≤◌, ◌⊎◌, bit_and, sym, ap, ◌∙◌, inl, inr, arith}
use Rattle.std.proofs.Math.Nat.{mod-add-mod, mod-eq_of_lt, add-mod_right}
use Rattle.std.proofs.lemmas.Nat.{and_mask}
use lib.Pow.{pow_mono}
use Rattle.std.proofs.lemmas.Bool.{cases_lt}
use Rattle.hashbag_slots.specs.Slots.{IsSlotCount, path_slot}

pub path_mask : (n h s : ℕ) → IsSlotCount n → s < n → bit_and (bit_and h (n - 1) + s) (n - 1) ≡ path_slot n h s
path_mask n h s c lt =
    elim c [
      | inl z ↦ absurd (omega arith)
      | inr w ↦
          let mask : (x : ℕ) → bit_and x (n - 1) ≡ x % n = λ x. ap (λ m. bit_and x (m - 1)) w.3 ∙ and_mask x w.0 ∙ ap (λ m. x % m) (sym w.3) in
          ap (λ y. bit_and (y + s) (n - 1)) (mask h) ∙ mask (h % n + s) ∙ mod-add-mod h n s
    ]

-- the first place of a path
pub home_mask : (n h : ℕ) → IsSlotCount n → 0 < n → bit_and h (n - 1) ≡ path_slot n h 0
home_mask n h c some =
    elim c [
      | inl z ↦ absurd (omega arith)
      | inr w ↦
          let same : h ≡ h + 0 = omega arith in
          ap (λ m. bit_and h (m - 1)) w.3 ∙ and_mask h w.0 ∙ ap (λ m. h % m) (sym w.3) ∙ ap (λ k. k % n) same
    ]

-- a path that comes to the last slot goes on at slot 0
pub path_wraps : (n h s r : ℕ) → 0 < n → path_slot n h s + r ≡ n → path_slot n h (s + r) ≡ 0
path_wraps n h s r some end =
    let e : h + (s + r) ≡ h + s + r = omega arith in
    let once : n ≡ 0 + n = omega arith in
    ap (λ x. x % n) e ∙ sym (mod-add-mod (h + s) n r) ∙ ap (λ x. x % n) (end ∙ once) ∙ add-mod_right 0 n ∙ mod-eq_of_lt some

-- a place is reached without a wrap, or with one
abbrev pub PathCases : ℕ → ℕ → ℕ → Type 0
PathCases n h j = ((h % n + j < n) × (path_slot n h j ≡ h % n + j)) ⊎ ((n ≤ h % n + j) × (path_slot n h j + n ≡ h % n + j))

pub path_cases : (n h j : ℕ) → 0 < n → j < n → PathCases n h j
path_cases n h j pos lt =
    let r = h % n in
    let e : path_slot n h j ≡ (r + j) % n = sym (mod-add-mod h n j) in
    elim (cases_lt (r + j) n) [
      | inl a ↦ inl (a, e ∙ mod-eq_of_lt a)
      | inr b ↦
          let below : r < n = omega arith in
          let back : r + j - n + n ≡ r + j = omega arith in
          let m : (r + j) % n ≡ r + j - n = ap (λ x. x % n) (sym back) ∙ add-mod_right (r + j - n) n ∙ mod-eq_of_lt (omega arith) in
          inr (b, omega (arith, e, m))
    ]

pub path_below : (n h j : ℕ) → 0 < n → path_slot n h j < n
path_below n h j pos = omega arith

-- each place is on each path
pub path_to : (n h p : ℕ) → p < n → (j : ℕ) × (j < n) × (path_slot n h j ≡ p)
path_to n h p lt =
    let r = h % n in
    let below : r < n = omega arith in
    elim (cases_lt p r) [
      | inl a ↦ let z = path_cases n h (p + n - r) (omega arith) (omega arith) in (p + n - r, omega arith, omega arith)
      | inr b ↦ let z = path_cases n h (p - r) (omega arith) (omega arith) in (p - r, omega arith, omega arith)
    ]

-- and once only
pub path_once : (n h i j : ℕ) → i < n → j < n → path_slot n h i ≡ path_slot n h j → i ≡ j
path_once n h i j p q e =
    let a = path_cases n h i (omega arith) p in
    let b = path_cases n h j (omega arith) q in
    omega arith

pub count_bound : (n : ℕ) → IsSlotCount n → n ≤ 2 ^ 59
count_bound n c =
    elim c [
      | inl z ↦ omega arith
      | inr w ↦ let m : 2 ^ w.0 ≤ 2 ^ 59 = pow_mono {i = w.0} {j = 59} w.2 in omega (arith, m, w.3)
    ]

-- a table that has a slot has sixteen
pub sixteen_slots : (n p : ℕ) → IsSlotCount n → p < n → 16 ≤ n
sixteen_slots n p (inl none) lt = absurd (omega arith)
sixteen_slots n p (inr w) lt = let m : 2 ^ 4 ≤ 2 ^ w.0 = pow_mono {i = 4} {j = w.0} w.1 in omega (arith, m, w.3)
