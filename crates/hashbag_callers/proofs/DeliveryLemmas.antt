-- What came of each value, beside what was ordered.
use Rattle.std.proofs.Common.{◌≡◌, ℕ, ◌+◌, ◌<◌, nat_lt, Bool, true, false, max, List, All, refl, arith}
use borrow.Author.Tests.{ltb-true, ltb-false}
use Rattle.hashbag.specs.Joins.{IsDifference}
use Rattle.hashbag.specs.Occurrences.{count}
use Rattle.hashbag.proofs.ContainsLemmas.{All-from_Contains}

module _ {T : Type 0} (eq : T → T → Bool) (X Y : List T) where
  -- the number of an entry is how many occurrences of its value came beyond those ordered
  abbrev pub CameMore : T × ℕ → Type 0
  CameMore e = count eq e.0 X ≡ count eq e.0 Y + e.1

  -- that holds of each item of the difference
  pub all_came_more : (E : List (T × ℕ)) → IsDifference eq X Y E → All CameMore E
  all_came_more E h = All-from_Contains CameMore E (λ e there.
      let is = (h.exactly e.0 e.1).0 there in
      let n = is.1 in
      let some = is.2 in
      omega arith)

  -- the greater of two numbers is the surplus of a value, if it isn't 0
  pub greater_reached : (n m : ℕ) (x : T × ℕ) → m ≡ max n x.1 → CameMore x → (0 < n → (v : T) × (count eq v X ≡ count eq v Y + n)) → 0 < m → (v : T) × (count eq v X ≡ count eq v Y + m)
  greater_reached n m x is came before some = by_case (nat_lt n x.1) refl
    where
      by_case : (b : Bool) → nat_lt n x.1 ≡ b → (v : T) × (count eq v X ≡ count eq v Y + m)
      by_case true e = let above = ltb-true n x.1 e in (x.0, omega arith)
      by_case false e =
          let below = ltb-false n x.1 e in
          let there = before (omega arith) in
          let reached = there.1 in
          (there.0, omega arith)
