-- The least number of slots of which a given number may be Live.
use Rattle.std.proofs.Common.{◌≡◌, ℕ, suc, ◌+◌, ◌*◌, ◌^◌, ◌<◌, ◌≤◌, List, [], length, refl, ap, subst, ◌∙◌, inl, inr, arith, pow-suc}
use Rattle.std.proofs.lemmas.List.{length-append}
use lib.Pow.{pow_mono}
use Rattle.std.proofs.lemmas.Bool.{cases_lt}
use Rattle.hashbag_slots.specs.declared.slots.Slot.{Slot}
use Rattle.hashbag_slots.specs.Slots.{IsSlotCount, live_count, removed_count, entries}
use Rattle.hashbag_slots.proofs.Paths.{count_bound}
use Rattle.hashbag_table.specs.declared.table.TheConstants.{MOST_VALUES}
use Rattle.hashbag_table.specs.Tables.{most_used, IsLeast, entries_of}
use Rattle.hashbag_table.proofs.RoomLemmas.{slot_count_least}
use Rattle.hashbag_table.proofs.SlotLemmas.{length-entries}

-- ---- limits

-- three quarters of the greatest number of slots
pub limit_most : most_used (2 ^ 59) ≡ MOST_VALUES
limit_most = refl

pub limit_mono : (m n : ℕ) → m ≤ n → most_used m ≤ most_used n
limit_mono m n le = omega arith

pub limit_few : (n : ℕ) → most_used n ≤ n
limit_few n = omega arith

-- no number of slots has room for more values than the greatest
pub limit_bound : (n : ℕ) → IsSlotCount n → most_used n ≤ MOST_VALUES
limit_bound n c = let m = limit_mono n (2 ^ 59) (count_bound n c) in let e = limit_most in omega (arith, m, e)

pub most_is : MOST_VALUES ≡ 432345564227567616
most_is = refl

-- how many values two tables have, which the greatest table has room for
pub values_fit : {T : Type 0} (newer waiting : List (Slot T)) (es : List (T × ℕ)) (slots : ℕ) → entries_of newer waiting ≡ es → live_count newer + removed_count newer + live_count waiting ≤ most_used (length newer) → slots ≡ length newer → slots ≤ 2 ^ 59
    → (length es ≡ live_count newer + live_count waiting) × (length es ≤ MOST_VALUES)
values_fit newer waiting es slots same fits is bound =
    let x = length-append (entries newer) (entries waiting) in let p = length-entries newer in let q = length-entries waiting in let l = ap length same in
    let m = limit_mono (length newer) (2 ^ 59) (omega (arith, is, bound)) in let e = limit_most in
    (omega (arith, x, p, q, l), omega (arith, x, p, q, l, fits, m, e))

-- ---- the next number of slots

-- no number of slots lies between one and twice that one
pub slot_count_next : (n m : ℕ) → IsSlotCount n → IsSlotCount m → 0 < n → n < m → 2 * n ≤ m
slot_count_next n m c d pos lt = elim c [
  | inl z ↦ absurd (omega arith)
  | inr v ↦ elim d [
    | inl z ↦ absurd (omega arith)
    | inr w ↦ elim (cases_lt v.0 w.0) [
      | inl less ↦
          let p : 2 ^ suc v.0 ≤ 2 ^ w.0 = pow_mono {i = suc v.0} {j = w.0} (omega arith) in
          let z = pow-suc 2 v.0 in let e = v.3 in let f = w.3 in omega (arith, p, z, e, f)
      | inr more ↦ absurd (let p : 2 ^ w.0 ≤ 2 ^ v.0 = pow_mono {i = w.0} {j = v.0} more in let e = v.3 in let f = w.3 in omega (arith, p, e, f, lt))
    ]
  ]
]

pub slot_count_first : (m : ℕ) → IsSlotCount m → 0 < m → 16 ≤ m
slot_count_first m d pos = elim (slot_count_least m d) [
  | inl z ↦ absurd (omega arith)
  | inr le ↦ le
]

-- ---- below every answer

-- every number of slots, from n on, of which k may be Live, is at least m
pub record Below (n k m : ℕ) : Type 0 where
  pub at : (other : ℕ) → IsSlotCount other → n ≤ other → k ≤ most_used other → m ≤ other

-- where m is too small, the number that follows it is below every answer too
pub below_first : (n k m : ℕ) → m ≡ 0 → most_used m < k → Below n k 16
below_first n k m none short = record { at = λ other c le enough. slot_count_first other c (omega arith) }

pub below_double : (n k m : ℕ) → IsSlotCount m → 0 < m → most_used m < k → Below n k m → Below n k (2 * m)
below_double n k m c pos short below = record {
  at = λ other d le enough.
      let b = below.at other d le enough in
      elim (cases_lt m other) [
        | inl more ↦ slot_count_next m other c d pos more
        | inr same ↦ absurd (let l = limit_mono other m same in omega (arith, l, enough, short))
      ];
}

pub least_from : (n k m : ℕ) → IsSlotCount m → n ≤ m → k ≤ most_used m → Below n k m → IsLeast n k m
least_from n k m c le enough below = record { count = c; from = le; enough = enough; least = below.at }

-- ---- what the least number is

pub least_unique : (n k m m' : ℕ) → IsLeast n k m → IsLeast n k m' → m ≡ m'
least_unique n k m m' h j =
    let a = h.least m' j.count j.from j.enough in
    let b = j.least m h.count h.from h.enough in
    omega (arith, a, b)

-- no value takes no slots
pub least_none : (m : ℕ) → IsLeast 0 0 m → m ≡ 0
least_none m h = let a = h.least 0 (inl refl) (omega arith) (omega arith) in omega (arith, a)

pub least_empty : {X : Type 0} (items : List X) (n m : ℕ) → n ≡ length items → IsLeast 0 n m → items ≡ [] → m ≡ 0
least_empty items n m is least none = least_none m (subst (λ k. IsLeast 0 k m) (is ∙ ap length none) least)

-- there is none for more values than a table may have
pub least_bound : (n k m : ℕ) → IsLeast n k m → k ≤ MOST_VALUES
least_bound n k m h = let e = h.enough in let b = limit_bound m h.count in omega (arith, e, b)

-- ---- there is one
