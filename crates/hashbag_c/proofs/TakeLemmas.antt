-- If nothing is stored of what a key names, there is none of it.
use Rattle.std.proofs.Common.{◌≡◌, ℕ, zero, suc, ◌<◌, Bool, List, [], ◌∷◌, length, filter, slice_get, find, Option, Some, None, option_map, refl, ◌∙◌, arith}
use Rattle.std.proofs.lemmas.List.Sums.{length-filter}
use Rattle.hashbag_table.proofs.ListLemmas.{find-filter}
use Rattle.hashbag_core.specs.Occurrences.{count_named, stored_named}

first_there : {T : Type 0} (L : List T) → 0 < length L → None ≡ slice_get L 0 → ⊥
first_there [] some e = absurd (omega arith)
first_there (x ∷ L) some e = absurd (cc)

unmapped : {T : Type 0} (n : ℕ) (o : Option T) → None ≡ option_map {U = T × ℕ} (λ (i : T). (i, n)) o → None ≡ o
unmapped n None e = refl
unmapped n (Some i) e = absurd (cc)

module _ {T : Type 0} (names : T → Bool) (X : List T) where
  -- something is stored of what is there
  there : 0 < count_named names X → None ≡ stored_named names X → ⊥
  there some e =
      let long = length-filter names X in
      first_there (filter names X) (omega arith) (unmapped (count_named names X) (find names X) e ∙ find-filter names X)

  -- if nothing is stored, there is none
  pub none_stored : None ≡ stored_named names X → count_named names X ≡ 0
  none_stored e = by_count (count_named names X) refl
    where
      by_count : (k : ℕ) → count_named names X ≡ k → count_named names X ≡ 0
      by_count zero h = h
      by_count (suc k) h = absurd (there (omega arith) e)
