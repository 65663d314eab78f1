use Rattle.std.proofs.Common.{List, ℕ, slice_get, ◌∙◌, ap}
use Rattle.hashbag_ledger_lib.specs.Rows.{row, rows_of, wrong_row}
use Rattle.hashbag_ledger_lib.proofs.ListLemmas.{lent_as}
use Rattle.hashbag_ledger_lib.proofs.WrongLemmas.{first_wrong, some_wrong}
use Rattle.hashbag_ledger_lib.proofs.verifying.wrong_number.Goals as goal

-- where the rows differ, the first article is named
pub returns-in-Some : goal.returns-in-Some
returns-in-Some c =
    let kept = rows_of c.args.kept.now in
    let counted = rows_of c.args.counted.now in
    let at = c.in-Some.at in
    let is = c.wrong_of.ensures ∙ (λ i. wrong_row (lent_as row c.args.kept.now at c.get.result c.get.ensures.lookup i) (lent_as row c.args.counted.now at c.get-in-Some.result c.get-in-Some.ensures.lookup i)) in
    record {
      agrees = (
        λ none. absurd (some_wrong kept counted at _ c.wrong_of.result is c.in-Some.ensures.differ none),
        λ same. absurd (c.in-Some.ensures.differ (ap (λ (l : List (List ℕ × ℕ)). slice_get l at) same)),
      );
      first = first_wrong kept counted at _ c.wrong_of.result is c.in-Some.ensures.differ c.in-Some.ensures.first;
    }
