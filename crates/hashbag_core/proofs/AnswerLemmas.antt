-- What `try_take` answers of a value that a key names, from what was taken of it.
use Rattle.std.proofs.Common.{◌≡◌, ◌≢◌, ℕ, zero, suc, ◌<◌, Bool, true, List, [], ◌∷◌, length, filter, find, slice_get, All, Option, None, Some, option_map, Result, Ok, Err, IfOk, IfErr, IsErrAnd, refl, subst, sym, ◌∙◌, ap, arith}
use Rattle.std.specs.Cmp.{IsEquivalence}
use Rattle.std.specs.List.Sorted.{IsPermutation}
use Rattle.std.proofs.lemmas.List.{nil_from_length}
use Rattle.std.proofs.lemmas.List.Elements.{filter_passes}
use Rattle.std.proofs.lemmas.List.Sums.{length-filter}
use Rattle.hashbag_table.proofs.KeyLemmas.{named_is}
use Rattle.hashbag_table.proofs.ListLemmas.{find-filter}
use Rattle.hashbag_core.specs.Occurrences.{count_named, counted_named, stored_named, less_named, IsBag}
use Rattle.hashbag_core.proofs.TakeLemmas.{instance_less}

module _ {T : Type 0} (names : T → Bool) where
  -- nothing is stored where nothing passes
  none_stored : (X : List T) → count_named names X ≡ 0 → None ≡ stored_named names X
  none_stored X none =
      let empty : filter names X ≡ [] = nil_from_length (filter names X) (length-filter names X ∙ none) in
      sym (ap (λ (o : Option T). option_map (λ i. (i, count_named names X)) o) (find-filter names X ∙ ap (λ (l : List T). slice_get l 0) empty))

  first_passes : (L : List T) → All (λ x. names x ≡ true) L → 0 < length L → (v : T) × (names v ≡ true)
  first_passes [] passes some = absurd (omega arith)
  first_passes (x ∷ L) passes some = (x, passes 0 x (omega arith))

  -- an item that passes, where there is one
  one_passes : (X : List T) → 0 < count_named names X → (v : T) × (names v ≡ true)
  one_passes X some = let long = length-filter names X in first_passes (filter names X) (filter_passes names X) (omega arith)

module _ {T : Type 0} {eq : T → T → Bool} (laws : IsEquivalence eq) (names : T → Bool) (one : (v w : T) → names v ≡ true → names w ≡ eq w v) where
  -- where some are left, the instance is what it was
  found_less : {most end : ℕ} → (X Y : List T) → IsBag eq most X → IsBag eq end Y → 1 < count_named names X → IsPermutation (less_named names 1 X) Y → find names Y ≡ find names X
  found_less X Y bag after some left =
      let v = one_passes names X (omega arith) in
      let is : names ≡ eq v.0 = named_is eq laws names one v.0 v.1 in
      subst (λ (test : T → Bool). 1 < count_named test X → IsPermutation (less_named test 1 X) Y → find test Y ≡ find test X) (sym is) (instance_less laws v.0 X Y bag after) some left

  -- what `try_take` answers, from what was taken of X, which left Y
  pub answer_named : {most end : ℕ} {F : Type 0} (shown : F → T × ℕ) (X Y : List T) → IsBag eq most X → IsBag eq end Y → IsPermutation (less_named names 1 X) Y → (taken : Result T ℕ) (answer : Result T (Option F))
      → IfOk taken (λ i. stored_named names X ≡ Some (i, 1)) → IfErr taken (λ before. (before ≡ count_named names X) × (before ≢ 1))
      → IfOk taken (λ i. answer ≡ Ok i) → IfErr taken (λ before. before ≡ 0 → answer ≡ Err None) → IfErr taken (λ before. before ≢ 0 → IsErrAnd answer (λ found. option_map shown found ≡ counted_named names before Y))
      → IfOk answer (λ i. stored_named names X ≡ Some (i, 1)) × IfErr answer (λ found. (option_map shown found ≡ stored_named names X) × (count_named names X ≢ 1))
  answer_named shown X Y bag after left (Ok i) answer last several is absent lent =
      subst (λ (a : Result T (Option _)). IfOk a (λ i. stored_named names X ≡ Some (i, 1)) × IfErr a (λ found. (option_map shown found ≡ stored_named names X) × (count_named names X ≢ 1))) (sym is) (last, tt)
  answer_named shown X Y bag after left (Err zero) answer last several is absent lent =
      let none : 0 ≡ count_named names X = several.0 in
      subst (λ (a : Result T (Option _)). IfOk a (λ i. stored_named names X ≡ Some (i, 1)) × IfErr a (λ found. (option_map shown found ≡ stored_named names X) × (count_named names X ≢ 1))) (sym (absent refl))
      (tt, (none_stored names X (sym none), λ one. omega arith))
  answer_named shown X Y bag after left (Err (suc k)) (Ok i) last several is absent lent = absurd (lent (λ e. omega arith))
  answer_named shown X Y bag after left (Err (suc k)) (Err found) last several is absent lent =
      let many : suc k ≡ count_named names X = several.0 in
      let not_one : suc k ≢ 1 = several.1 in (
        tt,
        (
          lent (λ e. omega arith) ∙ ap (λ (o : Option T). option_map {U = T × ℕ} (λ i. (i, suc k)) o) (found_less X Y bag after (omega arith) left)
              ∙ ap (λ (n : ℕ). option_map {U = T × ℕ} (λ i. (i, n)) (find names X)) many,
          λ one. omega arith,
        ),
      )
