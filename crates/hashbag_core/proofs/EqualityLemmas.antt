-- When the counts of a map are those of a list, and its total too.
use Rattle.std.proofs.Common.{◌≡◌, ℕ, suc, ◌+◌, ◌≤◌, ◌&&◌, Bool, true, false, cond, not, nat_eq, List, [], ◌∷◌, length, filter, All, Option, Some, None, unwrap_or, refl, sym, ◌∙◌, ap, arith}
use Rattle.std.specs.List.{list_all, IsDistinct, AllByRecursion}
use Rattle.std.specs.List.Sorted.{IsPermutation}
use Rattle.std.specs.Cmp.{IsEquivalence}
use Rattle.std.specs.Map.{keys_of, lookup}
use Rattle.std.proofs.lemmas.Bool.{false≢true}
use Rattle.std.proofs.lemmas.List.Filters.{length-filter_both}
use Rattle.std.proofs.lemmas.List.Sums.{length-filter, sum_by-cons, list_all-from_AllPass, AllPass-from_list_all}
use Rattle.std.proofs.lemmas.List.Sorted.{IsPermutation-sym, All-permutation}
use Rattle.std.proofs.lemmas.Bool.Decides.{Decides-eqb, same_from_decides}
use Rattle.std.proofs.lemmas.Map.Keys.{IsDistinct-head, IsDistinct-tail}
use Rattle.hashbag_table.specs.Entries.{total, IsCounted}
use Rattle.hashbag_table.proofs.CloneLemmas.{all_to_recursion}
use Rattle.hashbag_core.specs.Bag.{occurrences}
use Rattle.hashbag_core.specs.Occurrences.{count, others, SameCounts}
use Rattle.hashbag_core.specs.EqualityLaws.{count_congr, same_counts-Decides}
use Rattle.hashbag_core.specs.Equality.{same_counts}
use Rattle.hashbag_core.proofs.OccurrenceLemmas.{count_occurrences}
use Rattle.hashbag_core.proofs.WalkLemmas.{counts_at_places, length_occurrences}

module _ {T : Type 0} {eq : T → T → Bool} (laws : IsEquivalence eq) where
  -- ---- a list in which each entry's value has the entry's count

  filter_in_step : (p q : T → Bool) (y : T) (Y : List T) (a b : Bool) → p y ≡ a → q y ≡ b → (p y ≡ true → q y ≡ true) → length (filter p (filter q Y)) ≡ length (filter p Y)
      → length (filter p (cond b (y ∷ filter q Y) (filter q Y))) ≡ length (cond a (y ∷ filter p Y) (filter p Y))
  filter_in_step p q y Y true true e f h later = ap (λ (c : Bool). length (cond c (y ∷ filter p (filter q Y)) (filter p (filter q Y)))) e ∙ ap (λ (n : ℕ). suc n) later
  filter_in_step p q y Y true false e f h later = absurd (false≢true (sym f ∙ h e))
  filter_in_step p q y Y false true e f h later = ap (λ (c : Bool). length (cond c (y ∷ filter p (filter q Y)) (filter p (filter q Y)))) e ∙ later
  filter_in_step p q y Y false false e f h later = later

  filter_in_others : (p q : T → Bool) (Y : List T) → ((y : T) → p y ≡ true → q y ≡ true) → length (filter p (filter q Y)) ≡ length (filter p Y)
  filter_in_others p q [] h = refl
  filter_in_others p q (y ∷ Y) h = filter_in_step p q y Y (p y) (q y) refl refl (h y) (filter_in_others p q Y h)

  not_alike : (b : Bool) → b ≡ false → not b ≡ true
  not_alike b e = cc

  -- the counts of other values don't change where v's items go
  pub count_in_others : (v x : T) (Y : List T) → eq v x ≡ false → count eq x (others eq v Y) ≡ count eq x Y
  count_in_others v x Y other =
      sym (length-filter (eq x) (others eq v Y))
      ∙ filter_in_others (eq x) (λ y. not (eq v y)) Y (λ y e. not_alike (eq v y) (laws.symm v y ∙ sym (laws.congr x y v e) ∙ laws.symm x v ∙ other))
      ∙ length-filter (eq x) Y

  none_missing : (p : T → Bool) (Y : List T) → total {T = T} [] + length (filter p Y) ≤ length Y
  none_missing p Y = let both = length-filter_both p (λ x. not (p x)) (λ x. refl) Y in omega arith

  -- the list has those counts, and beside them whatever equals none of the values
  bound : (es : List (T × ℕ)) (Y : List T) (p : T → Bool) → ((x y : T) → eq x y ≡ true → p y ≡ true → p x ≡ true) → IsDistinct eq (keys_of es)
      → AllByRecursion (λ e. count eq e.0 Y ≡ e.1) es → AllByRecursion (λ e. p e.0 ≡ false) es → total es + length (filter p Y) ≤ length Y
  bound [] Y p respects distinct counts none = none_missing p Y
  bound (e ∷ es) Y p respects distinct counts none =
      let left = others eq e.0 Y in
      let later = bound es left p respects (IsDistinct-tail eq e.0 (keys_of es) distinct) (still es (IsDistinct-head eq e.0 (keys_of es) distinct) counts.1) none.1 in
      let kept = filter_in_others p (λ y. not (eq e.0 y)) Y (λ y passes. apart y passes (eq e.0 y) refl) in
      let split = length-filter_both (eq e.0) (λ y. not (eq e.0 y)) (λ y. refl) Y in
      let own = length-filter (eq e.0) Y in
      let head = counts.0 in
      let sum = sum_by-cons (λ e. e.1) e es in
      omega arith
    where
      apart : (y : T) → p y ≡ true → (b : Bool) → eq e.0 y ≡ b → not b ≡ true
      apart y passes true same = absurd (false≢true (sym none.0 ∙ respects e.0 y same passes))
      apart y passes false same = refl

      still : (fs : List (T × ℕ)) → AllByRecursion (λ y. eq e.0 y ≡ false) (keys_of fs) → AllByRecursion (λ f. count eq f.0 Y ≡ f.1) fs → AllByRecursion (λ f. count eq f.0 (others eq e.0 Y) ≡ f.1) fs
      still [] apart_all h = tt
      still (f ∷ fs) apart_all h = (count_in_others e.0 f.0 Y apart_all.0 ∙ h.0, still fs apart_all.1 h.1)

  nothing_passes : (es : List (T × ℕ)) → AllByRecursion (λ e. false ≡ false) es
  nothing_passes [] = tt
  nothing_passes (e ∷ es) = (refl, nothing_passes es)

  absent_step : (v : T) (e : T × ℕ) (es : List (T × ℕ)) (b : Bool) → eq v e.0 ≡ b → (lookup (eq v) es ≡ None → AllByRecursion (λ e. eq v e.0 ≡ false) es)
      → cond b (Some e.1) (lookup (eq v) es) ≡ None → AllByRecursion (λ e. eq v e.0 ≡ false) (e ∷ es)
  absent_step v e es true same later some = absurd (cc)
  absent_step v e es false other later none = (other, later none)

  absent_passes : (v : T) (es : List (T × ℕ)) → lookup (eq v) es ≡ None → AllByRecursion (λ e. eq v e.0 ≡ false) es
  absent_passes v [] h = tt
  absent_passes v (e ∷ es) h = absent_step v e es (eq v e.0) refl (absent_passes v es) h

  some_is : (m n : ℕ) → Some m ≡ Some n → m ≡ n
  some_is m n e = cc

  found_step : (v : T) (n : ℕ) (e : T × ℕ) (es : List (T × ℕ)) (Y : List T) (b : Bool) → eq v e.0 ≡ b → count eq e.0 Y ≡ e.1 → (lookup (eq v) es ≡ Some n → count eq v Y ≡ n)
      → cond b (Some e.1) (lookup (eq v) es) ≡ Some n → count eq v Y ≡ n
  found_step v n e es Y true same own later some = count_congr laws Y v e.0 same ∙ own ∙ some_is e.1 n some
  found_step v n e es Y false other own later some = later some

  -- the count that a look-up finds is the list's
  found_count : (v : T) (n : ℕ) (es : List (T × ℕ)) (Y : List T) → AllByRecursion (λ e. count eq e.0 Y ≡ e.1) es → lookup (eq v) es ≡ Some n → count eq v Y ≡ n
  found_count v n [] Y counts h = absurd (cc)
  found_count v n (e ∷ es) Y counts h = found_step v n e es Y (eq v e.0) refl counts.0 (found_count v n es Y counts.1) h

  -- where each entry's count is the list's, and the totals agree, all counts do
  pub same_from_entries : (es : List (T × ℕ)) (Y : List T) → IsDistinct eq (keys_of es) → AllByRecursion (λ e. count eq e.0 Y ≡ e.1) es → length (occurrences es) ≡ length Y → SameCounts eq (occurrences es) Y
  same_from_entries es Y distinct counts long v = by_look_up (lookup (eq v) es) refl
    where
      by_look_up : (o : Option ℕ) → lookup (eq v) es ≡ o → count eq v (occurrences es) ≡ count eq v Y
      by_look_up (Some n) e = count_occurrences laws v es distinct ∙ ap (λ (o : Option ℕ). unwrap_or o 0) e ∙ sym (found_count v n es Y counts e)
      by_look_up None e =
          let none : count eq v (occurrences es) ≡ 0 = count_occurrences laws v es distinct ∙ ap (λ (o : Option ℕ). unwrap_or o 0) e in
          let most = bound es Y (eq v) (λ x y same passes. laws.symm v x ∙ laws.congr x y v same ∙ laws.symm y v ∙ passes) distinct counts (absent_passes v es e) in
          let sum = length_occurrences es in
          let own = length-filter (eq v) Y in
          omega arith

  -- and where all counts agree, so do those of the entries, and the totals
  pub entries_from_same : (es : List (T × ℕ)) (Y : List T) → IsDistinct eq (keys_of es) → SameCounts eq (occurrences es) Y → All (λ e. count eq e.0 Y ≡ e.1) es
  entries_from_same es Y distinct same = λ k d below. sym (same _) ∙ ap (λ (e : T × ℕ). e.1) (counts_at_places laws es distinct k d below)

  as_long : (es fs : List (T × ℕ)) → IsDistinct eq (keys_of es) → SameCounts eq (occurrences es) (occurrences fs) → length (occurrences es) ≤ length (occurrences fs)
  as_long es fs distinct same =
      let least = bound es (occurrences fs) (λ _. false) (λ x y s p. p) distinct (all_to_recursion (λ e. count eq e.0 (occurrences fs) ≡ e.1) es (entries_from_same es (occurrences fs) distinct same)) (nothing_passes es) in
      let sum = length_occurrences es in
      omega arith

  pub same_total : (es fs : List (T × ℕ)) → IsDistinct eq (keys_of es) → IsDistinct eq (keys_of fs) → SameCounts eq (occurrences es) (occurrences fs) → length (occurrences es) ≡ length (occurrences fs)
  same_total es fs d e same =
      let a = as_long es fs d same in
      let b = as_long fs es e (λ v. sym (same v)) in
      omega arith

  -- ---- what equality answers

  abbrev pub agrees_in : List T → T × ℕ → Bool
  agrees_in Y e = nat_eq (count eq e.0 Y) e.1

  answers_no : (X Y : List T) → (SameCounts eq X Y → ⊥) → false ≡ same_counts eq X Y
  answers_no X Y h = same_from_decides {P = SameCounts eq X Y} false (same_counts eq X Y) ((λ e. absurd (false≢true e)), λ same. absurd (h same)) (same_counts-Decides laws X Y)

  pub unequal_totals : (es fs : List (T × ℕ)) → IsCounted eq es → IsCounted eq fs → (length (occurrences es) ≡ length (occurrences fs) → ⊥) → false ≡ same_counts eq (occurrences es) (occurrences fs)
  unequal_totals es fs ce cf h = answers_no _ _ (λ same. h (same_total es fs ce.distinct cf.distinct same))

  all_agree : (es W : List (T × ℕ)) (Y : List T) → IsCounted eq es → IsPermutation es W → SameCounts eq (occurrences es) Y → list_all (agrees_in Y) W ≡ true
  all_agree es W Y counted order same =
      let each = All-permutation (λ e. count eq e.0 Y ≡ e.1) es W order (entries_from_same es Y counted.distinct same) in
      list_all-from_AllPass (agrees_in Y) W (λ k d below. (Decides-eqb _ _).1 (each k d below))

  disagrees : (n m : ℕ) → (n ≡ m → ⊥) → (b : Bool) → nat_eq n m ≡ b → b ≡ false
  disagrees n m h true e = absurd (h ((Decides-eqb n m).0 e))
  disagrees n m h false e = refl

  pub unequal_counts : (es W rest : List (T × ℕ)) (e : T × ℕ) (Y : List T) → IsCounted eq es → IsPermutation es W → (count eq e.0 Y ≡ e.1 → ⊥)
      → list_all (agrees_in Y) (e ∷ rest) ≡ list_all (agrees_in Y) W → false ≡ same_counts eq (occurrences es) Y
  unequal_counts es W rest e Y counted order differ so_far = answers_no _ _ (λ same.
      let here = disagrees (count eq e.0 Y) e.1 differ (agrees_in Y e) refl in
      false≢true (sym (ap (λ (b : Bool). b && list_all (agrees_in Y) rest) here) ∙ so_far ∙ all_agree es W Y counted order same))

  pub equal_counts : (es W : List (T × ℕ)) (Y : List T) → IsCounted eq es → IsPermutation es W → list_all (agrees_in Y) W ≡ true → length (occurrences es) ≡ length Y → true ≡ same_counts eq (occurrences es) Y
  equal_counts es W Y counted order agree long =
      let pass = AllPass-from_list_all (agrees_in Y) W agree in
      let each = All-permutation (λ e. count eq e.0 Y ≡ e.1) W es (IsPermutation-sym _ _ order) (λ k d below. (Decides-eqb _ _).0 (pass k d below)) in
      sym ((same_counts-Decides laws (occurrences es) Y).1 (same_from_entries es Y counted.distinct (all_to_recursion (λ e. count eq e.0 Y ≡ e.1) es each) long))
