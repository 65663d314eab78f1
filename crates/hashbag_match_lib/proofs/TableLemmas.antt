-- The last line of a table.
use Rattle.std.proofs.Common.{◌≡◌, ℕ, ◌==◌, List, ◌++◌, codes, decimal, sym, ◌∙◌}
use Rattle.std.proofs.lemmas.Bool.{cond-false, ne_eqb}
use Rattle.hashbag_csv.specs.Scales.{number_text}
use Rattle.hashbag_csv.specs.declared.scale.Scale.{Scale}
use Rattle.hashbag_match_lib.specs.Written.{sums_text}
use Rattle.hashbag_match_lib.specs.declared.totals.Totals.{Totals}

-- the last line, if several articles differ
pub sums_many : (scale : Scale) (totals : Totals) (missing surplus text : List ℕ) → ¬ (totals.differing ≡ 0) → ¬ (totals.differing ≡ 1) → missing ≡ number_text scale totals.missing → surplus ≡ number_text scale totals.surplus
    → text ≡ decimal totals.differing ++ (codes " articles differ: " ++ (missing ++ (codes " missing, " ++ (surplus ++ codes " surplus\n")))) → text ≡ sums_text scale totals
sums_many scale totals missing surplus text some several missing_is surplus_is is =
    is ∙ (λ i. decimal totals.differing ++ (codes " articles differ: " ++ (missing_is i ++ (codes " missing, " ++ (surplus_is i ++ codes " surplus\n")))))
    ∙ sym (cond-false (totals.differing == 1) _ _ (ne_eqb totals.differing 1 several)) ∙ sym (cond-false (totals.differing == 0) _ _ (ne_eqb totals.differing 0 some))
