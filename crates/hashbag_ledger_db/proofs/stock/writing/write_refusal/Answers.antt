use Rattle.std.proofs.Common.{is_ok, refl}
use Rattle.hashbag_ledger_db.specs.Rows.{refusal_row}
use Rattle.hashbag_ledger_db.proofs.RowLemmas.{next, with_row}
use Rattle.hashbag_ledger_db.proofs.stock.writing.write_refusal.Goals as goal

pub returns-clause-step : goal.returns-clause-step
returns-clause-step g c =
    with_row g.S.Store (is_ok c.execute.result) _ _ (refusal_row c.args.movement c.args.there) c.args.transaction.now.conn.now c.execute.new.transaction.conn.now c.execute.ensures.step
    (next c.in_ok-movement.ensures (next c.in_ok-there.ensures refl))
