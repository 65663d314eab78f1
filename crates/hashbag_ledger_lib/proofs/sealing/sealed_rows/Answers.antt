use Rattle.std.proofs.Common.{◌≡◌, [], ◌∷◌, ◌++◌, List, drop, sym, ◌∙◌, ap, subst, arith}
use Rattle.std.proofs.lemmas.List.{append_assoc, append-nil, drop_all}
use Rattle.hashbag_ledger_lib.specs.declared.once.Batch.{Batch}
use Rattle.hashbag_ledger_lib.specs.declared.sealing.Draft.{Draft}
use Rattle.hashbag_ledger_lib.specs.Seals.{AreRowsOf}
use Rattle.hashbag_ledger_lib.proofs.SealLemmas.{rows_are_sealed, next_row}
use Rattle.hashbag_ledger_lib.proofs.sealing.sealed_rows.Goals as goal

-- one more row
pub loop-draft-preserved : goal.loop-draft-preserved
loop-draft-preserved c =
    let at = c.loop-draft in
    let row = c.in_ok-row.row in
    λ more are.
    let left = next_row c.args.scale c.args.drafts.now at.draft-index _ at.left.now c.cut.result.0.now c.cut.result.1.now at.left_extras.now c.cut-in-loop-draft.result.0.now c.cut-in-loop-draft.result.1.now row more c.loop-draft-test.true
    c.cut.ensures.own c.cut.ensures.later c.cut-in-loop-draft.ensures.own c.cut-in-loop-draft.ensures.later c.in_ok-row.ensures are in
    subst (λ (l : List Batch). AreRowsOf c.args.scale c.args.drafts.now c.args.entries.now c.args.extras.now l)
    (sym (append_assoc at.rows.items (row ∷ []) more) ∙ ap (λ (l : List Batch). l ++ more) (sym c.in_ok-push.ensures.items)) (at.invariant (row ∷ more) left)

-- all rows
pub returns : goal.returns
returns c =
    let at = c.loop-draft in
    let drafts = c.args.drafts.now in
    let none : drop at.draft-index drafts ≡ [] = drop_all at.draft-index drafts (omega arith) in
    let all = subst (λ (l : List Batch). AreRowsOf c.args.scale drafts c.args.entries.now c.args.extras.now l) (append-nil at.rows.items)
    (at.invariant [] (subst (λ (l : List Draft). AreRowsOf c.args.scale l at.left.now at.left_extras.now []) (sym none) tt)) in
    record {
      rows = all;
      sealed = rows_are_sealed c.args.scale drafts c.args.entries.now c.args.extras.now at.rows.items all;
    }
