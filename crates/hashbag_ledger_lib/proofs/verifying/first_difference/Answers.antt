use Rattle.std.proofs.Common.{◌≡◌, true, slice_get, sym, ◌∙◌, rules, arith, below_more}
use Rattle.std.proofs.lemmas.List.{length-map}
use Rattle.hashbag_ledger_lib.specs.Rows.{row, rows_of}
use Rattle.hashbag_ledger_lib.proofs.ListLemmas.{lent_as, same_if_same_below}
use Rattle.hashbag_ledger_lib.proofs.verifying.first_difference.Goals as goal

-- the next rows are the same
pub rows-preserved : goal.rows-preserved
rows-preserved c =
    let same : c.is_same_row.result ≡ true = search rules in
    let here : slice_get (rows_of c.args.kept.now) c.rows.i ≡ slice_get (rows_of c.args.counted.now) c.rows.i =
    sym (lent_as row c.args.kept.now c.rows.i c.get.result c.get.ensures.lookup) ∙ c.is_same_row.ensures.0 same ∙ lent_as row c.args.counted.now c.rows.i c.get-in-rows.result c.get-in-rows.ensures.lookup in
    below_more _ _ c.rows.invariant here

-- all rows are
pub returns-clause-all_same : goal.returns-clause-all_same
returns-clause-all_same c =
    let kept = length-map c.args.kept.now row in
    let counted = length-map c.args.counted.now row in
    same_if_same_below (rows_of c.args.kept.now) (rows_of c.args.counted.now) c.rows.i (omega arith) (omega arith) c.rows.invariant
