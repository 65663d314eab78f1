use Rattle.std.proofs.Common.{◌≡◌, ◌+◌, List, [], ◌∷◌, ◌++◌, drop, take, sym, ◌∙◌, ap, String, ℤ, w64, to_z, of_z, rules}
use Rattle.std.proofs.lemmas.List.{drop_more}
use Rattle.std.specs.Global.{Global}
use Rattle.hashbag_ledger_lib.specs.declared.extras.Extra.{Extra}
use Rattle.hashbag_ledger_lib.specs.declared.movements.Entry.{Entry}
use Rattle.hashbag_ledger_lib.specs.declared.once.Batch.{Batch}
use Rattle.hashbag_ledger_db.specs.Rows.{batch_row}
use Rattle.hashbag_ledger_db.specs.Statements.{Run, batch_runs, entry_runs, insert_batch, runs_of}
use Rattle.hashbag_ledger_db.specs.declared.stock.statements.Statement.{Statement}
use Rattle.hashbag_ledger_db.proofs.StatementLemmas.{next_batch, one_more}
use Rattle.hashbag_ledger_db.proofs.stock.statements.push_batches.Goals as goal

-- one more batch
pub loop-row-preserved : goal.loop-row-preserved
loop-row-preserved c =
    let at = c.loop-row in
    let row = c.row-item.result in
    let all = c.args.new.batches.now in
    let later = drop (at.row-index + 1) all in
    let left : drop at.row-index all ≡ row ∷ later = drop_more all at.row-index row c.loop-row-test.true ∙ ap (λ (x : Batch). x ∷ later) (sym c.row-item.is) in
    let own = entry_runs at.first row.number (take row.movements at.left.now) (take row.movements at.left_extras.now) in
    let rest = batch_runs (at.first + row.movements) later (drop row.movements at.left.now) (drop row.movements at.left_extras.now) in
    let number = to_z w64 (of_z w64 row.number) in
    let read : number ≡ row.number = search rules in
    let before = runs_of at.list.items ++ (insert_batch, batch_row row) ∷ [] in
    let listed : runs_of c.push_entries.new.list.items ≡ before ++ own =
    c.in_ok-push_entries.ensures
    ∙ ap (λ (l : List Statement). runs_of l ++ entry_runs at.first number c.cut.result.0.now c.cut-in-loop-row.result.0.now) c.in_ok-push.ensures.items
    ∙ ap (λ (l : List Run). l ++ entry_runs at.first number c.cut.result.0.now c.cut-in-loop-row.result.0.now) (one_more at.list.items _)
    ∙ ap (λ (l : List (Entry (String Global))). before ++ entry_runs at.first number l c.cut-in-loop-row.result.0.now) c.cut.ensures.own
    ∙ ap (λ (l : List Extra). before ++ entry_runs at.first number (take row.movements at.left.now) l) c.cut-in-loop-row.ensures.own
    ∙ ap (λ (n : ℤ). before ++ entry_runs at.first n (take row.movements at.left.now) (take row.movements at.left_extras.now)) read
    in
    let same : batch_runs c.in_ok-first.first later c.cut.result.1.now c.cut-in-loop-row.result.1.now ≡ rest = rw (c.in_ok-first.ensures, c.cut.ensures.later, c.cut-in-loop-row.ensures.later) in
    ap (λ (l : List Run). l ++ batch_runs c.in_ok-first.first later c.cut.result.1.now c.cut-in-loop-row.result.1.now) listed
    ∙ ap (λ (l : List Run). (before ++ own) ++ l) same
    ∙ next_batch (runs_of at.list.items) (insert_batch, batch_row row) own rest
    ∙ ap (λ (l : List Batch). runs_of at.list.items ++ batch_runs at.first l at.left.now at.left_extras.now) (sym left)
    ∙ at.invariant
