-- How the entries of a map follow from what its calls say.
use Rattle.std.proofs.Common.{◌≡◌, ℕ, ◌<◌, ◌≤◌, ◌-◌, ltb, arith, Bool, true, false, cond, List, [], ◌∷◌, Option, Some, None, refl, sym, ◌∙◌, ap, subst, option_map, unwrap_or, Result, Ok, Err, OnErr}
use borrow.Author.Tests.{ltb-true, lt-ltb}
use Rattle.std.specs.Map.{lookup, lookup_entry, lookup_key, remove_entry}
use Rattle.std.specs.Cmp.{IsEquivalence}
use Rattle.std.specs.List.Sorted.{IsPermutation}
use Rattle.std.proofs.lemmas.List.Sorted.{IsPermutation-refl, IsPermutation-cons, IsPermutation-trans, IsPermutation-middle, IsPermutation-map}
use Rattle.std.proofs.lemmas.Map.Keys.{IsDistinct-IsPermutation}
use Rattle.std.proofs.lemmas.Map.Views.{All-map-IsPermutation}
use Rattle.hashbag_table.specs.Entries.{with_count, with_fewer, without, stored_or_itself, count_of, IsCounted}

some_is : {X : Type 0} (x y : X) → Some x ≡ Some y → x ≡ y
some_is x y e = cc

none_if : {X Y : Type 0} (f : X → Y) (o : Option X) → option_map f o ≡ None → o ≡ None
none_if f None p = refl
none_if f (Some x) p = cc

-- what holds whatever a call answered holds on its error
pub OnErr-from : {X Y P : Type 0} (r : Result X Y) → P → OnErr r P
OnErr-from (Ok x) p = tt
OnErr-from (Err y) p = p

module _ {T : Type 0} where
  key_step : (b : Bool) (e : T × ℕ) (key : Option T) (found : Option (T × ℕ)) → key ≡ option_map (λ p. p.0) found → cond b (Some e.0) key ≡ option_map (λ p. p.0) (cond b (Some e) found)
  key_step true e key found p = refl
  key_step false e key found p = p

  pub lookup_key-entry : (test : T → Bool) (es : List (T × ℕ)) → lookup_key test es ≡ option_map (λ p. p.0) (lookup_entry test es)
  lookup_key-entry test [] = refl
  lookup_key-entry test (e ∷ es) = key_step (test e.0) e _ _ (lookup_key-entry test es)

  count_step : (b : Bool) (e : T × ℕ) (count : Option ℕ) (found : Option (T × ℕ)) → count ≡ option_map (λ p. p.1) found → cond b (Some e.1) count ≡ option_map (λ p. p.1) (cond b (Some e) found)
  count_step true e count found p = refl
  count_step false e count found p = p

  pub lookup-entry : (test : T → Bool) (es : List (T × ℕ)) → lookup test es ≡ option_map (λ p. p.1) (lookup_entry test es)
  lookup-entry test [] = refl
  lookup-entry test (e ∷ es) = count_step (test e.0) e _ _ (lookup-entry test es)

  pub entry_none_from_lookup : (test : T → Bool) (es : List (T × ℕ)) → lookup test es ≡ None → lookup_entry test es ≡ None
  entry_none_from_lookup test es p = none_if (λ (e : T × ℕ). e.1) (lookup_entry test es) (sym (lookup-entry test es) ∙ p)

  front_step : (b : Bool) (x : T × ℕ) (xs : List (T × ℕ)) (e : T × ℕ) (found : Option (T × ℕ)) (rest : List (T × ℕ))
      → (found ≡ Some e → IsPermutation xs (e ∷ rest)) → cond b (Some x) found ≡ Some e → IsPermutation (x ∷ xs) (e ∷ cond b xs (x ∷ rest))
  front_step true x xs e found rest f p = let same : x ≡ e = cc in subst (λ (y : T × ℕ). IsPermutation (x ∷ xs) (y ∷ xs)) same (IsPermutation-refl (x ∷ xs))
  front_step false x xs e found rest f p = IsPermutation-trans _ _ _ (IsPermutation-cons x _ _ (f p)) (IsPermutation-middle (x ∷ []) e rest)

  -- a map is the entry of v and the map without v
  pub entry_to_front : (test : T → Bool) (es : List (T × ℕ)) (e : T × ℕ) → lookup_entry test es ≡ Some e → IsPermutation es (e ∷ remove_entry test es)
  entry_to_front test [] e p = absurd (cc)
  entry_to_front test (x ∷ xs) e p = front_step (test x.0) x xs e _ _ (entry_to_front test xs e) p

  without_step : (b : Bool) (x : T × ℕ) (xs : List (T × ℕ)) (found : Option (T × ℕ)) (rest : List (T × ℕ)) → (found ≡ None → rest ≡ xs) → cond b (Some x) found ≡ None → cond b xs (x ∷ rest) ≡ x ∷ xs
  without_step true x xs found rest f p = cc
  without_step false x xs found rest f p = ap (λ ys. x ∷ ys) (f p)

  pub without_absent : (test : T → Bool) (es : List (T × ℕ)) → lookup_entry test es ≡ None → remove_entry test es ≡ es
  without_absent test [] p = refl
  without_absent test (x ∷ xs) p = without_step (test x.0) x xs _ _ (without_absent test xs) p

  -- the instance that is stored
  pub stored-present : (eq : T → T → Bool) (v : T) (es : List (T × ℕ)) (e : T × ℕ) → lookup_entry (eq v) es ≡ Some e → stored_or_itself eq v es ≡ e.0
  stored-present eq v es e p = ap (λ o. unwrap_or o v) (lookup_key-entry (eq v) es ∙ ap (option_map (λ (x : T × ℕ). x.0)) p)

  pub stored-absent : (eq : T → T → Bool) (v : T) (es : List (T × ℕ)) → lookup_entry (eq v) es ≡ None → stored_or_itself eq v es ≡ v
  stored-absent eq v es p = ap (λ o. unwrap_or o v) (lookup_key-entry (eq v) es ∙ ap (option_map (λ (x : T × ℕ). x.0)) p)

  -- a value that is absent comes as itself, beside all entries
  pub with_count-absent : (eq : T → T → Bool) (v : T) (w : ℕ) (es : List (T × ℕ)) → lookup (eq v) es ≡ None → with_count eq v w es ≡ (v, w) ∷ es
  with_count-absent eq v w es p =
      let absent : lookup_entry (eq v) es ≡ None = entry_none_from_lookup (eq v) es p in
      ap (λ (k : T). (k, w) ∷ without eq v es) (stored-absent eq v es absent) ∙ ap (λ (l : List (T × ℕ)). (v, w) ∷ l) (without_absent (eq v) es absent)

  -- the map with n fewer of v, where more than n are there, and where they are not
  pub with_fewer-some : (eq : T → T → Bool) (v : T) (n : ℕ) (es : List (T × ℕ)) → n < count_of eq v es → with_fewer eq v n es ≡ with_count eq v (count_of eq v es - n) es
  with_fewer-some eq v n es more = ap (λ (b : Bool). cond b (with_count eq v (count_of eq v es - n) es) (without eq v es)) (lt-ltb _ _ more)

  pub with_fewer-all : (eq : T → T → Bool) (v : T) (n : ℕ) (es : List (T × ℕ)) → count_of eq v es ≤ n → with_fewer eq v n es ≡ without eq v es
  with_fewer-all eq v n es few = ap (λ (b : Bool). cond b (with_count eq v (count_of eq v es - n) es) (without eq v es)) (not_below (ltb n (count_of eq v es)) refl)
    where
      not_below : (b : Bool) → ltb n (count_of eq v es) ≡ b → b ≡ false
      not_below true e = let over = ltb-true _ _ e in absurd (omega arith)
      not_below false e = refl

  -- a map of counts is one in any order
  pub counted_rearranged : {eq : T → T → Bool} → IsEquivalence eq → (es fs : List (T × ℕ)) → IsPermutation es fs → IsCounted eq es → IsCounted eq fs
  counted_rearranged {eq} laws es fs h counted = record {
    distinct = IsDistinct-IsPermutation eq laws.symm _ _ (IsPermutation-map (λ (e : T × ℕ). e.0) es fs h) counted.distinct;
    positive = All-map-IsPermutation (λ (e : T × ℕ). e.1) (λ n. 0 < n) es fs h counted.positive;
  }
