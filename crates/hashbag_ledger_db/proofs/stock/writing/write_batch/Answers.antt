use Rattle.std.proofs.Common.{is_ok, refl, rules}
use Rattle.hashbag_ledger_db.specs.Rows.{batch_row}
use Rattle.hashbag_ledger_db.proofs.RowLemmas.{next, with_row}
use Rattle.hashbag_ledger_db.proofs.stock.writing.write_batch.Goals as goal

pub returns-clause-step : goal.returns-clause-step
returns-clause-step g c =
    with_row g.S.Store (is_ok c.execute.result) _ _ (batch_row c.args.row.now) c.args.transaction.now.conn.now c.execute.new.transaction.conn.now c.execute.ensures.step
    (next (search rules) (next c.string.ensures (next c.string-2.ensures (next c.string-3.ensures (next c.signed_if.ensures (next c.string-4.ensures (next c.in_ok-movements.ensures (next c.in_ok-refused.ensures (next c.string-5.ensures refl)))))))))
