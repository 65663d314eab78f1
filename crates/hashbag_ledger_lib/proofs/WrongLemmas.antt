-- What is said of the first place where two lists differ, and of the movements of a batch.
use Rattle.std.proofs.Common.{◌≡◌, ◌≢◌, ℕ, ◌<◌, ◌++◌, List, ◌∷◌, map, take, drop, replicate, unsigned_abs, Option, Some, None, IsNone, IfSome, slice_get, refl, sym, ◌∙◌, ap}
use Rattle.std.proofs.lemmas.List.{map-append, take-append-drop}
use Rattle.std.specs.Option.{option_map}
use Rattle.hashbag_ledger_lib.specs.Kinds.{batch_number, numbers_of}
use Rattle.hashbag_ledger_lib.specs.declared.once.Batch.{Batch}
use Rattle.hashbag_ledger_lib.specs.declared.verifying.KeptMovement.{KeptMovement}
use Rattle.hashbag_ledger_lib.specs.Rows.{wrong_row, IsFirstDifference}

-- where two rows differ, one of them is there
row_is_there : (k c : Option (List ℕ × ℕ)) → k ≢ c → wrong_row k c ≢ None
row_is_there (Some k) (Some c) differ is = cc
row_is_there (Some k) None differ is = cc
row_is_there None (Some c) differ is = cc
row_is_there None None differ is = differ refl

module _ {W : Type 0} (kept counted : List (List ℕ × ℕ)) (at : ℕ) (told : W → List ℕ × ℕ × ℕ) (r : Option W) (is : option_map told r ≡ wrong_row (slice_get kept at) (slice_get counted at)) (differ : slice_get kept at ≢ slice_get counted at) where
  pub some_wrong : IsNone r → ⊥
  some_wrong none = by_case r is none
    where
      by_case : (r : Option W) → option_map told r ≡ wrong_row (slice_get kept at) (slice_get counted at) → IsNone r → ⊥
      by_case None is none = row_is_there (slice_get kept at) (slice_get counted at) differ (sym is)
      by_case (Some w) is none = cc

  pub first_wrong : ((k : ℕ) → k < at → slice_get kept k ≡ slice_get counted k) → IfSome r (λ w. IsFirstDifference wrong_row kept counted (Some (told w)))
  first_wrong before = by_case r is
    where
      by_case : (r : Option W) → option_map told r ≡ wrong_row (slice_get kept at) (slice_get counted at) → IfSome r (λ w. IsFirstDifference wrong_row kept counted (Some (told w)))
      by_case None is = tt
      by_case (Some w) is = record { place = at; before = before; differ = differ; is = is }

-- a batch has the first of these movements, as many as its row says, and the batches after it have the others
pub batch_first : (b : Batch) (bs rest : List Batch) (ms later : List KeptMovement) (count number : ℕ) → rest ≡ b ∷ bs → count ≡ b.movements → number ≡ unsigned_abs b.number
    → map batch_number (take count ms) ≡ replicate count number → later ≡ drop count ms → map batch_number later ≡ numbers_of bs → map batch_number ms ≡ numbers_of rest
batch_first b bs rest ms later count number are many is own left others =
    ap (map batch_number) (sym (take-append-drop count ms)) ∙ map-append batch_number (take count ms) (drop count ms)
    ∙ (λ i. own i ++ map batch_number (sym left i)) ∙ (λ i. replicate (many i) (is i) ++ others i) ∙ sym (ap numbers_of are)
