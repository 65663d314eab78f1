-- Columns and fields by their places.
use Rattle.std.proofs.Common.{◌≡◌, ◌≢◌, ◌<◌, ℕ, zero, suc, Bool, true, false, List, [], ◌∷◌, ◌∙◌, ap, get_or, length, bytes_eq, refl, sym, arith}
use Rattle.std.specs.Prelude.{decimal}
use Rattle.std.proofs.lemmas.List.{length-append}
use Rattle.std.proofs.lemmas.List.Sums.{position_or_len_is}
use Rattle.std.proofs.lemmas.Slice.Eq.{bytes_eq-Decides}
use Rattle.hashbag_csv.specs.Lines.{column_numbers, with_header, place_of}
use Rattle.hashbag_csv.specs.Readers.{Record}
use Rattle.hashbag_csv.specs.Sheets.{IsOnlyAt}

fails : (b : Bool) → (b ≡ true → ⊥) → b ≡ false
fails true never = absurd (never refl)
fails false never = refl

-- the only column of a name is the first
pub only_place : (name : List ℕ) (fields : Record) (p : ℕ) → IsOnlyAt name fields p → p ≡ place_of fields name
only_place name fields p (below, is, only) =
    let same = λ (f : List ℕ). bytes_eq-Decides name f in
    sym (position_or_len_is (bytes_eq name) fields p [] (omega (arith, below))
    (λ k less. fails _ (λ yes. let here = only k (omega (arith, less, below)) (sym ((same (get_or fields k [])).0 yes)) in absurd (omega (arith, less, here))))
    (λ low. (same (get_or fields p [])).1 (sym is)))

-- the place of a name that no column has
pub no_place : (name : List ℕ) (fields : Record) → ((k : ℕ) → k < length fields → get_or fields k [] ≢ name) → length fields ≡ place_of fields name
no_place name fields none =
    let same = λ (f : List ℕ). bytes_eq-Decides name f in
    sym (position_or_len_is (bytes_eq name) fields (length fields) [] (omega arith)
    (λ k less. fails _ (λ yes. none k less (sym ((same (get_or fields k [])).0 yes))))
    (λ low. absurd (omega (arith, low))))

pub numbers_long : (n : ℕ) → length (column_numbers n) ≡ n
numbers_long zero = refl
numbers_long (suc n) = let long = length-append (column_numbers n) (decimal (suc n) ∷ []) in let before = numbers_long n in omega (arith, long, before)

-- what stands for the header of records without one
pub numbered : (records : List Record) (first header : Record) (rest left : List Record) → records ≡ first ∷ rest → header ≡ column_numbers (length first) → records ≡ left → with_header true records ≡ header ∷ left
numbered records first header rest left is numbers same = ap (with_header true) is ∙ (λ i. sym numbers i ∷ (sym is ∙ same) i)
