-- Clones of a bag's items.
use Rattle.std.proofs.Common.{◌≡◌, ℕ, zero, suc, ◌<◌, Bool, true, false, cond, List, [], ◌∷◌, ◌++◌, length, replicate, filter, All, refl, sym, ◌∙◌, ap, subst, arith}
use Rattle.std.specs.Cmp.{IsEquivalence}
use Rattle.std.specs.List.{AllByRecursion, AllZip}
use Rattle.std.specs.Map.{values_of}
use Rattle.std.proofs.lemmas.List.Elements.{All-nil, All-cons, All-head, All-tail}
use Rattle.std.proofs.lemmas.List.Sorted.{length_permutation}
use Rattle.std.proofs.lemmas.List.Sums.{length-filter}
use Rattle.hashbag_table.specs.Entries.{HasClones, IsCounted}
use Rattle.hashbag_table.proofs.CloneLemmas.{IsCopy, all_to_recursion}
use Rattle.hashbag_core.specs.Bag.{occurrences, IsTallied}
use Rattle.hashbag_core.specs.Occurrences.{SameCounts}
use Rattle.hashbag_core.proofs.OccurrenceLemmas.{occurrences_rearranged, count_rearranged}

module _ {A B : Type 0} (R : A → B → Type 0) where
  zip_append : (xs : List A) (ys : List B) (us : List A) (vs : List B) → AllZip R xs ys → AllZip R us vs → AllZip R (xs ++ us) (ys ++ vs)
  zip_append [] [] us vs h k = k
  zip_append [] (y ∷ ys) us vs h k = absurd h
  zip_append (x ∷ xs) [] us vs h k = absurd h
  zip_append (x ∷ xs) (y ∷ ys) us vs h k = (h.0, zip_append xs ys us vs h.1 k)

  zip_replicate : (n : ℕ) (x : A) (y : B) → R x y → AllZip R (replicate n x) (replicate n y)
  zip_replicate zero x y h = tt
  zip_replicate (suc n) x y h = (h, zip_replicate n x y h)

  zip_length : (xs : List A) (ys : List B) → AllZip R xs ys → length xs ≡ length ys
  zip_length [] [] h = refl
  zip_length [] (y ∷ ys) h = absurd h
  zip_length (x ∷ xs) [] h = absurd h
  zip_length (x ∷ xs) (y ∷ ys) h = ap (λ (n : ℕ). suc n) (zip_length xs ys h.1)

module _ {T : Type 0} {eq : T → T → Bool} (laws : IsEquivalence eq) (is_clone : T → T → Type 0) where
  zip_occurrences : (es cs : List (T × ℕ)) → AllZip (IsCopy laws is_clone) es cs → AllZip is_clone (occurrences es) (occurrences cs)
  zip_occurrences [] [] h = tt
  zip_occurrences [] (c ∷ cs) h = absurd h
  zip_occurrences (e ∷ es) [] h = absurd h
  zip_occurrences (e ∷ es) (c ∷ cs) h =
      zip_append is_clone (replicate e.1 e.0) (replicate c.1 c.0) (occurrences es) (occurrences cs)
      (subst (λ (n : ℕ). AllZip is_clone (replicate e.1 e.0) (replicate n c.0)) (sym h.0.1) (zip_replicate is_clone e.1 e.0 c.0 h.0.0)) (zip_occurrences es cs h.1)

  -- the clones of the entries are clones of their occurrences
  pub clones_occurrences : (es fs : List (T × ℕ)) → HasClones (IsCopy laws is_clone) es fs → HasClones is_clone (occurrences es) (occurrences fs)
  clones_occurrences es fs h = record {
    clones = occurrences h.clones;
    each = zip_occurrences es h.clones h.each;
    all = occurrences_rearranged h.clones fs h.all;
  }

  count_step : (v x y : T) (X Y : List T) → eq x y ≡ true → length (filter (eq v) X) ≡ length (filter (eq v) Y) → length (filter (eq v) (x ∷ X)) ≡ length (filter (eq v) (y ∷ Y))
  count_step v x y X Y same h = by_tests (eq v x) (eq v y) (laws.symm v x ∙ laws.congr x y v same ∙ laws.symm y v)
    where
      by_tests : (a b : Bool) → a ≡ b → length (cond a (x ∷ filter (eq v) X) (filter (eq v) X)) ≡ length (cond b (y ∷ filter (eq v) Y) (filter (eq v) Y))
      by_tests true true e = ap (λ (n : ℕ). suc n) h
      by_tests true false e = absurd (cc)
      by_tests false true e = absurd (cc)
      by_tests false false e = h

  zip_count : (v : T) (X Y : List T) → AllByRecursion (λ x. (y : T) → is_clone x y → eq x y ≡ true) X → AllZip is_clone X Y → length (filter (eq v) X) ≡ length (filter (eq v) Y)
  zip_count v [] [] equal h = refl
  zip_count v [] (y ∷ Y) equal h = absurd h
  zip_count v (x ∷ X) [] equal h = absurd h
  zip_count v (x ∷ X) (y ∷ Y) equal h = count_step v x y X Y (equal.0 y h.0) (zip_count v X Y equal.1 h.1)

  -- clones that equal their sources have the same counts
  pub same_from_clones : (X Y : List T) → All (λ x. (y : T) → is_clone x y → eq x y ≡ true) X → HasClones is_clone X Y → SameCounts eq X Y
  same_from_clones X Y equal h v =
      sym (length-filter (eq v) X) ∙ zip_count v X h.clones (all_to_recursion (λ x. (y : T) → is_clone x y → eq x y ≡ true) X equal) h.each
      ∙ length-filter (eq v) h.clones ∙ count_rearranged laws v h.clones Y h.all

  pub tally_cloned : {most : ℕ} → (es fs : List (T × ℕ)) (total : ℕ) → IsTallied eq es total most → IsCounted eq fs → HasClones (IsCopy laws is_clone) es fs → IsTallied eq fs total most
  tally_cloned es fs total tally counted h =
      let copies = clones_occurrences es fs h in
      record {
        sum = tally.sum ∙ zip_length is_clone (occurrences es) copies.clones copies.each ∙ sym (length_permutation copies.clones (occurrences fs) copies.all);
        fits = tally.fits;
        limit = tally.limit;
        counted = counted;
      }

-- what holds of each item holds of each entry's instance
first_copy : {T : Type 0} (P : T → Type 0) (e : T × ℕ) (X : List T) → 0 < e.1 → AllByRecursion P (replicate e.1 e.0 ++ X) → P e.0 × AllByRecursion P X
first_copy P e X some h = by_count e.1 some h
  where
    rest : (n : ℕ) → AllByRecursion P (replicate n e.0 ++ X) → AllByRecursion P X
    rest zero h = h
    rest (suc n) h = rest n h.1

    by_count : (n : ℕ) → 0 < n → AllByRecursion P (replicate n e.0 ++ X) → P e.0 × AllByRecursion P X
    by_count zero some h = absurd (omega arith)
    by_count (suc n) some h = (h.0, rest n h.1)

entries_by_recursion : {T : Type 0} (P : T → Type 0) (es : List (T × ℕ)) → All (λ n. 0 < n) (values_of es) → AllByRecursion P (occurrences es) → All (λ e. P e.0) es
entries_by_recursion P [] positive h = All-nil (λ e. P e.0)
entries_by_recursion P (e ∷ es) positive h =
    let both = first_copy P e (occurrences es) (All-head (λ n. 0 < n) e.1 (values_of es) positive) h in
    All-cons (λ e. P e.0) e es both.0 (entries_by_recursion P es (All-tail (λ n. 0 < n) e.1 (values_of es) positive) both.1)

pub entries_from_items : {T : Type 0} (P : T → Type 0) (es : List (T × ℕ)) → All (λ n. 0 < n) (values_of es) → All P (occurrences es) → All (λ e. P e.0) es
entries_from_items P es positive h = entries_by_recursion P es positive (all_to_recursion P (occurrences es) h)
