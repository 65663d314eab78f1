-- What is left of a value of which some were taken.
use Rattle.std.proofs.Common.{◌≡◌, ℕ, zero, suc, ◌<◌, Bool, true, false, cond, not, List, [], ◌∷◌, ◌++◌, length, drop, filter, slice_get, All, Option, Some, None, option_map, unwrap_or, refl, sym, ◌∙◌, ap, arith}
use Rattle.std.specs.Cmp.{IsEquivalence}
use Rattle.std.specs.List.Sorted.{IsPermutation}
use Rattle.std.specs.Map.{lookup_entry}
use Rattle.std.proofs.lemmas.List.Sums.{length-filter}
use Rattle.std.proofs.lemmas.List.Elements.{filter-append, filter_passes, All-drop}
use Rattle.std.proofs.lemmas.List.Sorted.{IsPermutation-sym}
use Rattle.hashbag_table.specs.Entries.{entry_of, count_of, IsCounted}
use Rattle.hashbag_table.proofs.EntryLemmas.{lookup_key-entry}
use Rattle.hashbag_core.specs.Bag.{occurrences}
use Rattle.hashbag_core.specs.Occurrences.{alike, others, count, instance, instance_or_itself, stored, less, IsBag}
use Rattle.hashbag_table.proofs.ListLemmas.{find-filter}
use Rattle.hashbag_core.proofs.OccurrenceLemmas.{alike_same_instance, instance_rearranged, instance_occurrences, count_occurrences, count_of_entry, none_found}

module _ {T : Type 0} (p : T → Bool) where
  kept_step : (x : T) (xs kept : List T) (b : Bool) → b ≡ true → kept ≡ xs → cond b (x ∷ kept) kept ≡ x ∷ xs
  kept_step x xs kept b t h = ap (λ c. cond c (x ∷ kept) kept) t ∙ ap (λ l. x ∷ l) h

  all_kept : (xs : List T) → All (λ x. p x ≡ true) xs → filter p xs ≡ xs
  all_kept [] h = refl
  all_kept (x ∷ xs) h = kept_step x xs (filter p xs) (p x) (h 0 x (omega arith)) (all_kept xs (λ k d at. h (suc k) d (omega arith)))

  none_step : (x : T) (R : List T) (b : Bool) → p x ≡ b → filter p R ≡ [] → filter p (cond (not b) (x ∷ R) R) ≡ []
  none_step x R true e h = h
  none_step x R false e h = ap (λ c. cond c (x ∷ filter p R) (filter p R)) e ∙ h

  pub none_of_others : (xs : List T) → filter p (filter (λ x. not (p x)) xs) ≡ []
  none_of_others [] = refl
  none_of_others (x ∷ xs) = none_step x _ (p x) refl (none_of_others xs)

second : {T : Type 0} (L : List T) → All (λ x. All (λ y. x ≡ y) L) L → 1 < length L → slice_get (drop 1 L) 0 ≡ slice_get L 0
second [] same long = absurd (omega arith)
second (x ∷ []) same long = absurd (omega arith)
second (x ∷ y ∷ L) same long = ap Some (sym (same 0 x (omega arith) 1 x (omega arith)))

module _ {T : Type 0} {eq : T → T → Bool} (laws : IsEquivalence eq) where
  pub alike_less : (v : T) (n : ℕ) (X : List T) → alike eq v (less eq v n X) ≡ drop n (alike eq v X)
  alike_less v n X =
      filter-append (eq v) (others eq v X) (drop n (alike eq v X)) ∙ ap (λ (l : List T). l ++ filter (eq v) (drop n (alike eq v X))) (none_of_others (eq v) X)
      ∙ all_kept (eq v) (drop n (alike eq v X)) (All-drop (λ x. eq v x ≡ true) n _ (filter_passes (eq v) X))

  -- where some are left, the instance is what it was
  pub instance_less : {most end : ℕ} → (v : T) (X Y : List T) → IsBag eq most X → IsBag eq end Y → 1 < count eq v X → IsPermutation (less eq v 1 X) Y → instance eq v Y ≡ instance eq v X
  instance_less v X Y bag after some h =
      let long = length-filter (eq v) X in
      instance_rearranged laws v Y (less eq v 1 X) after (IsPermutation-sym _ _ h) ∙ find-filter (eq v) (less eq v 1 X)
      ∙ ap (λ (l : List T). slice_get l 0) (alike_less v 1 X) ∙ second (alike eq v X) (alike_same_instance laws v X bag) (omega arith) ∙ sym (find-filter (eq v) X)

  -- the entry of a map is what its occurrences store
  pub stored_occurrences : (v : T) (es : List (T × ℕ)) → IsCounted eq es → stored eq v (occurrences es) ≡ entry_of eq v es
  stored_occurrences v es counted =
      ap (λ (o : Option T). option_map (λ i. (i, count eq v (occurrences es))) o) (instance_occurrences laws v es counted ∙ lookup_key-entry (eq v) es)
      ∙ ap (λ (n : ℕ). option_map (λ i. (i, n)) (option_map (λ (e : T × ℕ). e.0) (lookup_entry (eq v) es))) (count_occurrences laws v es counted.distinct)
      ∙ parts (lookup_entry (eq v) es) refl
    where
      parts : (o : Option (T × ℕ)) → lookup_entry (eq v) es ≡ o → option_map (λ (i : T). (i, count_of eq v es)) (option_map (λ (e : T × ℕ). e.0) (lookup_entry (eq v) es)) ≡ lookup_entry (eq v) es
      parts None e = ap (λ (o : Option (T × ℕ)). option_map (λ (i : T). (i, count_of eq v es)) (option_map (λ (e : T × ℕ). e.0) o)) e ∙ sym e
      parts (Some f) e =
          let n : count_of eq v es ≡ f.1 = count_of_entry laws v es (Some f) (sym e) in
          ap (λ (o : Option (T × ℕ)). option_map (λ (i : T). (i, count_of eq v es)) (option_map (λ (e : T × ℕ). e.0) o)) e ∙ ap (λ (k : ℕ). Some (f.0, k)) n ∙ sym e

  -- of `get`: nothing is stored of an absent value
  pub stored_absent : (v : T) (X : List T) → count eq v X ≡ 0 → None ≡ stored eq v X
  stored_absent v X none = sym (ap (λ (o : Option T). option_map (λ i. (i, count eq v X)) o) (none_found laws v X none))

  first_there : (L : List T) → 0 < length L → None ≡ slice_get L 0 → ⊥
  first_there [] some e = absurd (omega arith)
  first_there (x ∷ L) some e = absurd (cc)

  unmapped : (n : ℕ) (o : Option T) → None ≡ option_map {U = T × ℕ} (λ (i : T). (i, n)) o → None ≡ o
  unmapped n None e = refl
  unmapped n (Some i) e = absurd (cc)

  -- something is stored of what is there
  pub stored_there : (v : T) (X : List T) → 0 < count eq v X → None ≡ stored eq v X → ⊥
  stored_there v X some e =
      let long = length-filter (eq v) X in
      first_there (alike eq v X) (omega arith) (unmapped (count eq v X) (instance eq v X) e ∙ find-filter (eq v) X)

  count_kept : (n : ℕ) (o : Option T) → unwrap_or (option_map (λ (e : T × ℕ). e.1) (option_map {U = T × ℕ} (λ (i : T). (i, n)) o)) n ≡ n
  count_kept n None = refl
  count_kept n (Some i) = refl

  -- of `get`: the number that is returned is the count
  pub stored_count : (v : T) (X : List T) (i : T) (m : ℕ) → Some (i, m) ≡ stored eq v X → m ≡ count eq v X
  stored_count v X i m e = ap (λ (o : Option (T × ℕ)). unwrap_or (option_map (λ (e : T × ℕ). e.1) o) (count eq v X)) e ∙ count_kept (count eq v X) (instance eq v X)

  instance_kept : (v : T) (n : ℕ) (o : Option T) (i : T) (m : ℕ) → Some (i, m) ≡ option_map {U = T × ℕ} (λ (j : T). (j, n)) o → i ≡ unwrap_or o v
  instance_kept v n None i m e = absurd (cc)
  instance_kept v n (Some j) i m e = ap (λ (o : Option (T × ℕ)). (unwrap_or o (i, m)).0) e

  pub stored_instance : (v : T) (X : List T) (i : T) (m : ℕ) → Some (i, m) ≡ stored eq v X → i ≡ instance_or_itself eq v X
  stored_instance v X i m e = instance_kept v (count eq v X) (instance eq v X) i m e

  -- of `get`: the count of what is returned is above 0
  pub stored_some : (v : T) (X : List T) (p : T × ℕ) → Some p ≡ stored eq v X → 0 < count eq v X
  stored_some v X p e = by_count (count eq v X) refl
    where
      by_count : (k : ℕ) → count eq v X ≡ k → 0 < k
      by_count zero h = let none : None ≡ stored eq v X = stored_absent v X h in let wrong : Some p ≡ None = e ∙ sym none in absurd (cc)
      by_count (suc k) h = omega arith
