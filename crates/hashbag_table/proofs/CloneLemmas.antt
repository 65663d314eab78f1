-- Clones of the entries of a map, as they go into another one.
use Rattle.std.proofs.Common.{◌≡◌, ℕ, suc, ◌<◌, Bool, true, false, List, [], ◌∷◌, ◌++◌, All, None, refl, sym, ◌∙◌, subst, arith}
use Rattle.std.specs.Cmp.{IsEquivalence}
use Rattle.std.specs.List.{IsDistinct, AllByRecursion, AllZip}
use Rattle.std.specs.List.Sorted.{IsPermutation}
use Rattle.std.specs.Map.{keys_of, values_of}
use Rattle.std.proofs.lemmas.List.Elements.{All-nil, All-cons}
use Rattle.std.proofs.lemmas.List.Sorted.{IsPermutation-refl, IsPermutation-sym, IsPermutation-trans, IsPermutation-cons, IsPermutation-middle, IsPermutation-map, IsPermutation-append_comm, All-permutation}
use Rattle.std.proofs.lemmas.Map.{NonePasses, lookup-none}
use Rattle.std.proofs.lemmas.Map.Views.{All-map-IsPermutation}
use Rattle.std.proofs.lemmas.Map.Keys.{IsDistinct-IsPermutation, IsDistinct-head}
use Rattle.hashbag_table.specs.Entries.{HasClones, entry_of, with_instance}
use Rattle.hashbag_table.proofs.ListLemmas.{along_permutation}
use Rattle.hashbag_table.proofs.EntryLemmas.{entry_none_from_lookup, without_absent}

module _ {X : Type 0} (P : X → Type 0) where
  pub all_from_recursion : (xs : List X) → AllByRecursion P xs → All P xs
  all_from_recursion [] h = All-nil P
  all_from_recursion (x ∷ xs) h = All-cons P x xs h.0 (all_from_recursion xs h.1)

  pub all_to_recursion : (xs : List X) → All P xs → AllByRecursion P xs
  all_to_recursion [] h = tt
  all_to_recursion (x ∷ xs) h = (h 0 x (omega arith), all_to_recursion xs (λ k d at. h (suc k) d (omega arith)))

  pub all_front : (xs ys : List X) → AllByRecursion P (xs ++ ys) → AllByRecursion P xs
  all_front [] ys h = tt
  all_front (x ∷ xs) ys h = (h.0, all_front xs ys h.1)

-- one more on both sides
pub zip_more : {A B : Type 0} (R : A → B → Type 0) (xs : List A) (ys : List B) (x : A) (y : B) → AllZip R xs ys → R x y → AllZip R (xs ++ x ∷ []) (ys ++ y ∷ [])
zip_more R [] [] x y h r = (r, tt)
zip_more R [] (b ∷ ys) x y h r = absurd h
zip_more R (a ∷ xs) [] x y h r = absurd h
zip_more R (a ∷ xs) (b ∷ ys) x y h r = (h.0, zip_more R xs ys x y h.1 r)

pub clones_more : {X : Type 0} (is_clone : X → X → Type 0) (xs ys zs : List X) (x y : X) → HasClones is_clone xs ys → is_clone x y → IsPermutation (y ∷ ys) zs → HasClones is_clone (xs ++ x ∷ []) zs
clones_more is_clone xs ys zs x y h r more = record {
  clones = h.clones ++ y ∷ [];
  each = zip_more is_clone xs h.clones x y h.each r;
  all = IsPermutation-trans _ _ _ (IsPermutation-append_comm h.clones (y ∷ [])) (IsPermutation-trans _ _ _ (IsPermutation-cons y _ _ h.all) more);
}

-- clones of the items in another order
module _ {X : Type 0} (is_clone : X → X → Type 0) where
  abbrev Reordered : List X → List X → Type 0
  Reordered xs ys = (cs : List X) → AllZip is_clone xs cs → (ds : List X) × AllZip is_clone ys ds × IsPermutation ds cs

  reordered_head : (x : X) (xs ys : List X) → Reordered xs ys → Reordered (x ∷ xs) (x ∷ ys)
  reordered_head x xs ys h [] z = absurd z
  reordered_head x xs ys h (c ∷ cs) z = let r = h cs z.1 in (c ∷ r.0, (z.0, r.1), IsPermutation-cons c _ _ r.2)

  reordered_heads : (x y : X) (xs : List X) → Reordered (x ∷ y ∷ xs) (y ∷ x ∷ xs)
  reordered_heads x y xs [] z = absurd z
  reordered_heads x y xs (c ∷ []) z = absurd z.1
  reordered_heads x y xs (c ∷ d ∷ cs) z = (d ∷ c ∷ cs, (z.1.0, (z.0, z.1.1)), IsPermutation-middle (d ∷ []) c cs)

  pub clones_reordered : (xs ys zs : List X) → IsPermutation xs ys → HasClones is_clone ys zs → HasClones is_clone xs zs
  clones_reordered xs ys zs order h =
      let r = along_permutation Reordered (λ xs cs z. (cs, z, IsPermutation-refl cs)) reordered_head reordered_heads
      (λ xs ys zs f g cs z. let a = f cs z in let b = g a.0 a.1 in (b.0, b.1, IsPermutation-trans _ _ _ b.2 a.2)) ys xs (IsPermutation-sym _ _ order) h.clones h.each in
      record { clones = r.0; each = r.1; all = IsPermutation-trans _ _ _ r.2 h.all }

module _ {T : Type 0} {eq : T → T → Bool} (laws : IsEquivalence eq) (is_clone : T → T → Type 0) where
  -- an entry and its clone
  abbrev pub IsCopy : T × ℕ → T × ℕ → Type 0
  IsCopy e c = is_clone e.0 c.0 × (c.1 ≡ e.1)

  -- clones of this entry's value equal it
  abbrev pub ClonesEqual : T × ℕ → Type 0
  ClonesEqual e = (x : T) → is_clone e.0 x → eq e.0 x ≡ true

  -- a clone c of v, and a clone y of another value x
  differs : (v c x y : T) → eq v c ≡ true → eq x y ≡ true → eq v x ≡ false → eq c y ≡ false
  differs v c x y p q other = sym (laws.congr v c y p) ∙ laws.symm v y ∙ sym (laws.congr x y v q) ∙ laws.symm x v ∙ other

  none_among_clones : (v c : T) (es cs : List (T × ℕ)) → eq v c ≡ true → AllByRecursion ClonesEqual es → AllByRecursion (λ e. eq v e.0 ≡ false) es → AllZip IsCopy es cs → NonePasses (eq c) cs
  none_among_clones v c [] [] p equal other h = tt
  none_among_clones v c [] (d ∷ cs) p equal other h = absurd h
  none_among_clones v c (e ∷ es) [] p equal other h = absurd h
  none_among_clones v c (e ∷ es) (d ∷ cs) p equal other h = (differs v c e.0 d.0 p (equal.0 d.0 h.0.0) other.0, none_among_clones v c es cs p equal.1 other.1 h.1)

  of_keys : (P : T → Type 0) (es : List (T × ℕ)) → AllByRecursion P (keys_of es) → AllByRecursion (λ e. P e.0) es
  of_keys P [] h = tt
  of_keys P (e ∷ es) h = (h.0, of_keys P es h.1)

  -- a clone of the next entry isn't among the clones of those before it
  pub next_is_new : (all done rest left : List (T × ℕ)) (e : T × ℕ) (c : T) → All ClonesEqual all → IsDistinct eq (keys_of all) → IsPermutation all (done ++ e ∷ rest)
      → HasClones IsCopy done left → is_clone e.0 c → entry_of eq c left ≡ None
  next_is_new all done rest left e c equal distinct order clones is =
      let turned : IsPermutation all (e ∷ done ++ rest) = IsPermutation-trans _ _ _ order (IsPermutation-middle done e rest) in
      let equal_all : AllByRecursion ClonesEqual (e ∷ done ++ rest) = all_to_recursion ClonesEqual (e ∷ done ++ rest) (All-permutation ClonesEqual _ _ turned equal) in
      let keys = IsDistinct-IsPermutation eq laws.symm _ _ (IsPermutation-map (λ e. e.0) _ _ turned) distinct in
      let other = of_keys (λ y. eq e.0 y ≡ false) (done ++ rest) (IsDistinct-head eq e.0 (keys_of (done ++ rest)) keys) in
      let among = none_among_clones e.0 c done clones.clones (equal_all.0 c is) (all_front ClonesEqual done rest equal_all.1) (all_front (λ d. eq e.0 d.0 ≡ false) done rest other) clones.each in
      let none = All-permutation (λ d. eq c d.0 ≡ false) _ _ clones.all (all_from_recursion (λ d. eq c d.0 ≡ false) clones.clones among) in
      entry_none_from_lookup (eq c) left (lookup-none (eq c) left (all_to_recursion (λ d. eq c d.0 ≡ false) left none))

  -- it goes in
  pub copied : (done left after : List (T × ℕ)) (e : T × ℕ) (c : T) → HasClones IsCopy done left → is_clone e.0 c → entry_of eq c left ≡ None → IsPermutation (with_instance eq c e.1 left) after → HasClones IsCopy (done ++ e ∷ []) after
  copied done left after e c clones is absent put =
      clones_more IsCopy done left after e (c, e.1) clones (is, refl) (subst (λ (l : List (T × ℕ)). IsPermutation ((c, e.1) ∷ l) after) (without_absent (eq c) left absent) put)

-- the next entry has a count
pub next_is_some : {T : Type 0} (all done rest : List (T × ℕ)) (e : T × ℕ) → All (λ n. 0 < n) (values_of all) → IsPermutation all (done ++ e ∷ rest) → 0 < e.1
next_is_some all done rest e positive order =
    All-map-IsPermutation (λ e. e.1) (λ n. 0 < n) all (e ∷ done ++ rest) (IsPermutation-trans _ _ _ order (IsPermutation-middle done e rest)) positive 0 (e.1) (omega arith)
