use Rattle.std.proofs.Common.{[], ◌∷◌, is_ok, refl, sym, subst}
use Rattle.hashbag_ledger_db.specs.Commits.{IsStep}
use Rattle.hashbag_ledger_db.specs.Rows.{article_row, text}
use Rattle.hashbag_ledger_db.specs.Statements.{changed}
use Rattle.hashbag_ledger_db.proofs.RowLemmas.{next, with_row}
use Rattle.hashbag_ledger_lib.specs.declared.rows.RowChange.{RowChange}
use Rattle.hashbag_ledger_db.proofs.stock.writing.write_row.Goals as goal

pub returns-in_ok-there-in-Put-clause-step : goal.returns-in_ok-there-in-Put-clause-step
returns-in_ok-there-in-Put-clause-step g c =
    subst (λ (r : RowChange). IsStep g.S.Store (is_ok c.execute.result) (changed r) c.args.transaction.now.conn.now c.execute.new.transaction.conn.now) (sym c.in-Put.is)
    (with_row g.S.Store (is_ok c.execute.result) _ _ (article_row c.in-Put.article c.in-Put.there) c.args.transaction.now.conn.now c.execute.new.transaction.conn.now c.execute.ensures.step
    (next c.string.ensures (next c.in_ok-there-in-Put.ensures refl)))

pub returns-in-Remove-clause-step : goal.returns-in-Remove-clause-step
returns-in-Remove-clause-step g c =
    subst (λ (r : RowChange). IsStep g.S.Store (is_ok c.execute-in-Remove.result) (changed r) c.args.transaction.now.conn.now c.execute-in-Remove.new.transaction.conn.now) (sym c.in-Remove.is)
    (with_row g.S.Store (is_ok c.execute-in-Remove.result) _ _ (text c.in-Remove.article ∷ []) c.args.transaction.now.conn.now c.execute-in-Remove.new.transaction.conn.now c.execute-in-Remove.ensures.step
    (next c.string-in-Remove.ensures refl))
