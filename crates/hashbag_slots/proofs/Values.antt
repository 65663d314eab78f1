-- The values of a row of places.
use Rattle.std.proofs.Common.{◌≡◌, ℕ, zero, suc, ◌<◌, Bool, true, false, cond, List, [], ◌∷◌, length, replicate, get_or, Some, None, refl, sym, ap, ◌∙◌, arith, slice_set}
use Rattle.hashbag_slots.specs.Cells.{IsBlank, filled_values}

below_full : (fs : List Bool) (p : ℕ) → get_or fs p false ≡ true → p < length fs
below_full [] p h = absurd (cc)
below_full (f ∷ fs) zero h = omega arith
below_full (f ∷ fs) (suc p) h = let l = below_full fs p h in omega arith

module _ {T : Type 0} where
  pub length-filled_values : (xs : List T) (fs : List Bool) → length xs ≡ length fs → length (filled_values xs fs) ≡ length xs
  length-filled_values [] fs e = refl
  length-filled_values (x ∷ xs) [] e = absurd (omega arith)
  length-filled_values (x ∷ xs) (f ∷ fs) e = ap suc (length-filled_values xs fs (omega arith))

  pub at-filled_values : (xs : List T) (fs : List Bool) (p : ℕ) (d : T) → length xs ≡ length fs → get_or (filled_values xs fs) p None ≡ cond (get_or fs p false) (Some (get_or xs p d)) None
  at-filled_values [] [] p d e = refl
  at-filled_values [] (f ∷ fs) p d e = absurd (omega arith)
  at-filled_values (x ∷ xs) [] p d e = absurd (omega arith)
  at-filled_values (x ∷ xs) (f ∷ fs) zero d e = refl
  at-filled_values (x ∷ xs) (f ∷ fs) (suc p) d e = at-filled_values xs fs p d (omega arith)

  pub put-filled_values : (xs : List T) (fs : List Bool) (p : ℕ) (v : T) → length xs ≡ length fs → filled_values (slice_set xs p v) (slice_set fs p true) ≡ slice_set (filled_values xs fs) p (Some v)
  put-filled_values [] [] p v e = refl
  put-filled_values [] (f ∷ fs) p v e = absurd (omega arith)
  put-filled_values (x ∷ xs) [] p v e = absurd (omega arith)
  put-filled_values (x ∷ xs) (f ∷ fs) zero v e = refl
  put-filled_values (x ∷ xs) (f ∷ fs) (suc p) v e = ap (λ cs. cond f (Some x) None ∷ cs) (put-filled_values xs fs p v (omega arith))

  pub take-filled_values : (xs : List T) (fs : List Bool) (p : ℕ) → length xs ≡ length fs → filled_values xs (slice_set fs p false) ≡ slice_set (filled_values xs fs) p None
  take-filled_values [] [] p e = refl
  take-filled_values [] (f ∷ fs) p e = absurd (omega arith)
  take-filled_values (x ∷ xs) [] p e = absurd (omega arith)
  take-filled_values (x ∷ xs) (f ∷ fs) zero e = refl
  take-filled_values (x ∷ xs) (f ∷ fs) (suc p) e = ap (λ cs. cond f (Some x) None ∷ cs) (take-filled_values xs fs p (omega arith))

  pub no-filled_values : (xs : List T) (n : ℕ) → length xs ≡ n → filled_values xs (replicate n false) ≡ replicate n None
  no-filled_values [] zero e = refl
  no-filled_values [] (suc n) e = absurd (omega arith)
  no-filled_values (x ∷ xs) zero e = absurd (omega arith)
  no-filled_values (x ∷ xs) (suc n) e = ap (λ cs. None ∷ cs) (no-filled_values xs n (omega arith))

  full_cond : (b : Bool) (w v : T) → cond b (Some w) None ≡ Some v → (b ≡ true) × (w ≡ v)
  full_cond true w v h = (refl, cc)
  full_cond false w v h = absurd (cc)

  empty_cond : (b : Bool) (w : T) → cond b (Some w) None ≡ None → b ≡ false
  empty_cond true w h = absurd (cc)
  empty_cond false w h = refl

  -- a full cell is a place that holds its value
  pub full_place : (xs : List T) (fs : List Bool) (p : ℕ) (v : T) → length xs ≡ length fs → get_or (filled_values xs fs) p None ≡ Some v → (p < length fs) × (get_or fs p false ≡ true) × ((d : T) → get_or xs p d ≡ v)
  full_place xs fs p v e h =
      let at : (d : T) → (get_or fs p false ≡ true) × (get_or xs p d ≡ v) = λ d. full_cond (get_or fs p false) (get_or xs p d) v (sym (at-filled_values xs fs p d e) ∙ h) in
      (below_full fs p (at v).0, (at v).0, λ d. (at d).1)

  pub full_cell : (xs : List T) (fs : List Bool) (p : ℕ) (v : T) → length xs ≡ length fs → get_or fs p false ≡ true → v ≡ get_or xs p v → get_or (filled_values xs fs) p None ≡ Some v
  full_cell xs fs p v e h is = at-filled_values xs fs p v e ∙ ap (λ b. cond b (Some (get_or xs p v)) None) h ∙ ap Some (sym is)

  -- a place of no value holds none
  pub blank_places : (xs : List T) (fs : List Bool) → length xs ≡ length fs → IsBlank (filled_values xs fs) → (p : ℕ) → get_or fs p false ≡ false
  blank_places [] [] e h p = refl
  blank_places [] (f ∷ fs) e h p = absurd (omega arith)
  blank_places (x ∷ xs) [] e h p = absurd (omega arith)
  blank_places (x ∷ xs) (f ∷ fs) e h zero = empty_cond f x (h 0)
  blank_places (x ∷ xs) (f ∷ fs) e h (suc p) = blank_places xs fs (omega arith) (λ q. h (suc q)) p
