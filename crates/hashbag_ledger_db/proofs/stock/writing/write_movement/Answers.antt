use Rattle.std.proofs.Common.{Option, ◌++◌, is_ok, option_copied, refl, ap, sym, subst, rules}
use Rattle.hashbag_ledger_lib.specs.declared.extras.Extra.{Extra}
use Rattle.hashbag_ledger_db.specs.Commits.{IsStep}
use Rattle.hashbag_ledger_db.specs.Rows.{extra_row, movement_row}
use Rattle.hashbag_ledger_db.specs.Statements.{movement_run}
use Rattle.hashbag_ledger_db.proofs.RowLemmas.{next, with_row}
use Rattle.hashbag_ledger_db.proofs.stock.writing.write_movement.Goals as goal

pub returns-in-Some-clause-step : goal.returns-in-Some-clause-step
returns-in-Some-clause-step g c =
    subst (λ (x : Option Extra). IsStep g.S.Store (is_ok c.execute.result) (movement_run c.args.new.number c.args.new.batch c.args.new.movement.now x) c.args.transaction.now.conn.now c.execute.new.transaction.conn.now)
    (sym (ap option_copied c.in-Some.is))
    (with_row g.S.Store (is_ok c.execute.result) _ _ (movement_row c.args.new.number c.args.new.batch c.args.new.movement.now ++ extra_row c.in-Some.extra.now) c.args.transaction.now.conn.now c.execute.new.transaction.conn.now c.execute.ensures.step
    (next c.in_ok-own.ensures (next (search rules) (next c.in_ok-line.ensures (next c.string-article.ensures (next c.in_ok-change.ensures (next c.word_if.ensures (next c.word_if-in-Some.ensures refl))))))))

pub returns-in-None-clause-step : goal.returns-in-None-clause-step
returns-in-None-clause-step g c =
    subst (λ (x : Option Extra). IsStep g.S.Store (is_ok c.execute-in-None.result) (movement_run c.args.new.number c.args.new.batch c.args.new.movement.now x) c.args.transaction.now.conn.now c.execute-in-None.new.transaction.conn.now)
    (sym (ap option_copied c.in-None.is))
    (with_row g.S.Store (is_ok c.execute-in-None.result) _ _ (movement_row c.args.new.number c.args.new.batch c.args.new.movement.now) c.args.transaction.now.conn.now c.execute-in-None.new.transaction.conn.now c.execute-in-None.ensures.step
    (next c.in_ok-own.ensures (next (search rules) (next c.in_ok-line.ensures (next c.string-article.ensures (next c.in_ok-change.ensures refl))))))
