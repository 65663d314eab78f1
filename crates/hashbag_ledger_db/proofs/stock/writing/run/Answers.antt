use Rattle.std.proofs.Common.{[], ◌∷◌, is_ok, pos, refl, sym, subst}
use Rattle.sqlite.specs.declared.types.Value.TheVariants.{Int, Text}
use Rattle.hashbag_ledger_db.specs.Commits.{IsStep}
use Rattle.hashbag_ledger_db.specs.Statements.{run_of}
use Rattle.hashbag_ledger_db.specs.declared.stock.statements.Statement.{Statement}
use Rattle.hashbag_ledger_db.proofs.RowLemmas.{next, with_row}
use Rattle.hashbag_ledger_db.proofs.stock.writing.run.Goals as goal

pub returns-in-KeepNumber-clause-step : goal.returns-in-KeepNumber-clause-step
returns-in-KeepNumber-clause-step g c =
    subst (λ (s : Statement). IsStep g.S.Store (is_ok c.execute-in-KeepNumber.result) (run_of s) c.args.transaction.now.conn.now c.execute-in-KeepNumber.new.transaction.conn.now) (sym c.in-KeepNumber.is)
    (with_row g.S.Store (is_ok c.execute-in-KeepNumber.result) _ _ (Text c.in-KeepNumber.name.now ∷ Int (pos c.in-KeepNumber.number) ∷ []) c.args.transaction.now.conn.now c.execute-in-KeepNumber.new.transaction.conn.now c.execute-in-KeepNumber.ensures.step
    (next c.word.ensures (next c.whole.ensures refl)))

pub returns-in-Keep-clause-step : goal.returns-in-Keep-clause-step
returns-in-Keep-clause-step g c =
    subst (λ (s : Statement). IsStep g.S.Store (is_ok c.execute-in-Keep.result) (run_of s) c.args.transaction.now.conn.now c.execute-in-Keep.new.transaction.conn.now) (sym c.in-Keep.is)
    (with_row g.S.Store (is_ok c.execute-in-Keep.result) _ _ (Text c.in-Keep.name.now ∷ Text c.in-Keep.text.now ∷ []) c.args.transaction.now.conn.now c.execute-in-Keep.new.transaction.conn.now c.execute-in-Keep.ensures.step
    (next c.word-in-Keep.ensures (next c.word-in-Keep-2.ensures refl)))

pub returns-in-Batch-clause-step : goal.returns-in-Batch-clause-step
returns-in-Batch-clause-step g c =
    subst (λ (s : Statement). IsStep g.S.Store (is_ok c.write_batch.result) (run_of s) c.args.transaction.now.conn.now c.write_batch.new.transaction.conn.now) (sym c.in-Batch.is) c.write_batch.ensures.step
