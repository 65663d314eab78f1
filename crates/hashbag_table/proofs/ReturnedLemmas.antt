-- What the numbers that a closure returned leave of counts.
use Rattle.std.proofs.Common.{◌≡◌, ℕ, ◌<◌, ◌≤◌, min, nat_lt, Bool, true, false, cond, List, [], ◌∷◌, All, refl, arith}
use borrow.Author.Tests.{ltb-true}
use Rattle.std.specs.Map.{values_of}
use Rattle.std.proofs.lemmas.List.Elements.{All-nil, All-cons}
use Rattle.std.proofs.lemmas.List.Sums.{sum_by-cons}
use Rattle.hashbag_table.specs.Returned.{retained_entries}
use Rattle.hashbag_table.specs.Entries.{total}

pub lesser : (a n : ℕ) → min a n ≤ n
lesser a n = omega arith

module _ {T : Type 0} where
  total_step : (b : Bool) (k : T) (m v : ℕ) (es fs : List (T × ℕ)) → m ≤ v → total fs ≤ total es → total (cond b ((k, m) ∷ fs) fs) ≤ total ((k, v) ∷ es)
  total_step true k m v es fs le h =
      let x = sum_by-cons (λ e. e.1) (k, m) fs in
      let y = sum_by-cons (λ e. e.1) (k, v) es in
      omega arith
  total_step false k m v es fs le h = let y = sum_by-cons (λ e. e.1) (k, v) es in omega arith

  -- the total doesn't grow
  pub total_kept : (es : List (T × ℕ)) (returned : List ℕ) → total (retained_entries es returned) ≤ total es
  total_kept [] returned = omega arith
  total_kept (e ∷ es) [] = omega arith
  total_kept (e ∷ es) (a ∷ returned) = total_step (nat_lt 0 (min a e.1)) e.0 (min a e.1) e.1 es (retained_entries es returned) (lesser a e.1) (total_kept es returned)

  positive_step : (b : Bool) (k : T) (m : ℕ) (fs : List (T × ℕ)) → nat_lt 0 m ≡ b → All (λ n. 0 < n) (values_of fs) → All (λ n. 0 < n) (values_of (cond b ((k, m) ∷ fs) fs))
  positive_step true k m fs e h = All-cons (λ n. 0 < n) m (values_of fs) (ltb-true 0 m e) h
  positive_step false k m fs e h = h

  -- no count 0 is kept
  pub positive_kept : (es : List (T × ℕ)) (returned : List ℕ) → All (λ n. 0 < n) (values_of (retained_entries es returned))
  positive_kept [] returned = All-nil (λ n. 0 < n)
  positive_kept (e ∷ es) [] = All-nil (λ n. 0 < n)
  positive_kept (e ∷ es) (a ∷ returned) = positive_step (nat_lt 0 (min a e.1)) e.0 (min a e.1) (retained_entries es returned) refl (positive_kept es returned)
