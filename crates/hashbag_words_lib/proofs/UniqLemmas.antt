-- Lines that `uniq -c` may have written.
use Rattle.std.proofs.Common.{◌≡◌, ◌≢◌, ℕ, suc, ◌<◌, ◌^◌, List, [], ◌∷◌, ◌++◌, length, get_or, drop, decimal, Option, MatchOption, refl, sym, ◌∙◌, ap, arith}
use Rattle.std.specs.Borrow.{Bor}
use Rattle.std.proofs.lemmas.Fmt.{decimal_is_IsNumeral}
use Rattle.std.proofs.lemmas.List.Elements.{All-get_or}
use Rattle.std.proofs.lemmas.Str.Pattern.{IsSplitOnceResult, split_after}
use Rattle.hashbag_words_lib.specs.Rows.{AreSpaces, IsRowText}
use Rattle.hashbag_words_lib.specs.declared.rows.RowForm.TheVariants.{Uniq}
use Rattle.hashbag_words_lib.proofs.RowLemmas.{no_digit}

-- what doesn't begin with a space
pub not_first : (xs : List ℕ) → ((rest : List ℕ) → xs ≢ 32 ∷ rest) → get_or xs 0 0 ≢ 32
not_first [] none = λ is. absurd (omega arith)
not_first (x ∷ xs) none = λ is. none xs (ap (λ (y : ℕ). y ∷ xs) is)

later : (x : ℕ) (xs : List ℕ) → AreSpaces (x ∷ xs) → AreSpaces xs
later x xs h = λ k d lt. h (suc k) d (omega arith)

-- there is one way to part the spaces at the beginning
same_rest : (xs ys us vs : List ℕ) → AreSpaces xs → AreSpaces ys → get_or us 0 0 ≢ 32 → get_or vs 0 0 ≢ 32 → xs ++ us ≡ ys ++ vs → us ≡ vs
same_rest [] [] us vs blank empty first other is = is
same_rest [] (y ∷ ys) us vs blank empty first other is = absurd (first (ap (λ (l : List ℕ). get_or l 0 0) is ∙ empty 0 0 (omega arith)))
same_rest (x ∷ xs) [] us vs blank empty first other is = absurd (other (sym (ap (λ (l : List ℕ). get_or l 0 0) is) ∙ blank 0 0 (omega arith)))
same_rest (x ∷ xs) (y ∷ ys) us vs blank empty first other is = same_rest xs ys us vs (later x xs blank) (later y ys empty) first other (ap (drop 1) is)

-- a decimal has no space
no_space : (n : ℕ) → n < 2 ^ 64 → (i : ℕ) → i < length (decimal n) → get_or (decimal n) i 0 ≢ 32
no_space n fits i lt = All-get_or (λ y. y ≢ 32) (decimal n) i 0 lt (no_digit 32 (λ low. absurd (omega arith)) (decimal n) (decimal_is_IsNumeral n fits).0.1)

begins : (xs ys : List ℕ) → 0 < length xs → get_or (xs ++ ys) 0 0 ≡ get_or xs 0 0
begins [] ys some = absurd (omega arith)
begins (x ∷ xs) ys some = refl

-- what is behind the spaces is split at the space behind the count
pub split_uniq : (r : Option (Bor (List ℕ) × Bor (List ℕ))) (line spaces past token : List ℕ) (count : ℕ) → IsSplitOnceResult 32 past r → AreSpaces spaces → line ≡ spaces ++ past → get_or past 0 0 ≢ 32
    → count < 2 ^ 64 → IsRowText Uniq line token count → MatchOption r ⊥ (λ x. (x.0.now ≡ decimal count) × (x.1.now ≡ token))
split_uniq r line spaces past token count h blank parts first fits is =
    let some = (decimal_is_IsNumeral count fits).0.0 in
    let other : get_or (decimal count ++ 32 ∷ token) 0 0 ≢ 32 = λ e. no_space count fits 0 some (sym (begins (decimal count) (32 ∷ token) some) ∙ e) in
    let same : past ≡ decimal count ++ 32 ∷ token = same_rest spaces is.0 past (decimal count ++ 32 ∷ token) blank is.1 first other (sym parts ∙ is.2) in
    split_after 32 past (decimal count) token r h (omega arith) same (no_space count fits)
