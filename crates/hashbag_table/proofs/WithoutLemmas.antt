-- A map without one of its values, whatever the order of its entries.
use Rattle.std.proofs.Common.{◌≡◌, ℕ, Bool, true, false, cond, not, List, [], ◌∷◌, filter, Option, Some, None, refl, sym, ap, subst}
use Rattle.std.specs.Cmp.{IsEquivalence}
use Rattle.std.specs.List.{IsDistinct}
use Rattle.std.specs.List.Sorted.{IsPermutation}
use Rattle.std.specs.Map.{keys_of, lookup}
use Rattle.std.proofs.lemmas.Map.{lookup-none}
use Rattle.std.proofs.lemmas.Map.Entries.{none_past_head}
use Rattle.std.proofs.lemmas.Map.Keys.{IsDistinct-tail}
use Rattle.hashbag_table.specs.Entries.{without}
use Rattle.hashbag_table.proofs.ListLemmas.{IsPermutation-filter}

module _ {T : Type 0} {eq : T → T → Bool} (laws : IsEquivalence eq) where
  -- the entries of other values
  abbrev pub other_entries : T → List (T × ℕ) → List (T × ℕ)
  other_entries v es = filter (λ e. not (eq v e.0)) es

  absent_step : (b : Bool) (e : T × ℕ) (count : Option ℕ) (es kept : List (T × ℕ)) → (count ≡ None → kept ≡ es) → cond b (Some e.1) count ≡ None → cond (not b) (e ∷ kept) kept ≡ e ∷ es
  absent_step true e count es kept f p = cc
  absent_step false e count es kept f p = ap (λ (l : List (T × ℕ)). e ∷ l) (f p)

  others_of_absent : (v : T) (es : List (T × ℕ)) → lookup (eq v) es ≡ None → other_entries v es ≡ es
  others_of_absent v [] p = refl
  others_of_absent v (e ∷ es) p = absent_step (eq v e.0) e _ es _ (others_of_absent v es) p

  without_step : (b : Bool) (e : T × ℕ) (es kept rest : List (T × ℕ)) → (b ≡ true → kept ≡ es) → rest ≡ kept → cond b es (e ∷ rest) ≡ cond (not b) (e ∷ kept) kept
  without_step true e es kept rest absent same = sym (absent refl)
  without_step false e es kept rest absent same = ap (λ (l : List (T × ℕ)). e ∷ l) same

  -- where no two values are equal, they are the map without v
  pub without_is : (v : T) (es : List (T × ℕ)) → IsDistinct eq (keys_of es) → without eq v es ≡ other_entries v es
  without_is v [] distinct = refl
  without_is v (e ∷ es) distinct =
      without_step (eq v e.0) e es _ _ (λ same. others_of_absent v es (lookup-none (eq v) es (none_past_head laws v e es distinct same)))
      (without_is v es (IsDistinct-tail eq e.0 (keys_of es) distinct))

  pub without_rearranged : (v : T) (es fs : List (T × ℕ)) → IsDistinct eq (keys_of es) → IsDistinct eq (keys_of fs) → IsPermutation es fs → IsPermutation (without eq v es) (without eq v fs)
  without_rearranged v es fs distinct distinct_too h =
      subst (λ (l : List (T × ℕ)). IsPermutation l (without eq v fs)) (sym (without_is v es distinct))
      (subst (λ (l : List (T × ℕ)). IsPermutation (other_entries v es) l) (sym (without_is v fs distinct_too)) (IsPermutation-filter _ es fs h))
