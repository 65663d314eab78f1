use Rattle.std.proofs.lemmas.Result.{IfOk-weaker}
use Rattle.hashbag_ledger_db.specs.Readings.{kept_names}
use Rattle.hashbag_ledger_lib.specs.Movements.{names_now}
use Rattle.hashbag_ledger_db.proofs.FormLemmas.{filed_on_kept}
use Rattle.hashbag_ledger_db.proofs.entering.filed_in.Goals as goal

pub returns-in-Stock-default-clause-stock : goal.returns-in-Stock-default-clause-stock
returns-in-Stock-default-clause-stock g c style is =
    IfOk-weaker c.filed_of.result _ _
    (λ filed all. filed_on_kept c.args.job.now c.args.contents c.in-Stock-default.style style (names_now c.columns_or-columns.result) (names_now c.names.result) (kept_names c.args.before.now.columns)
    c.reading-reading.result c.args.inputs.now c.balance.result.now c.args.before.now.balance.items filed c.in-Stock-default.is-0 is c.balance.ensures c.columns_or-columns.ensures c.names.ensures c.reading-reading.ensures all)
    c.filed_of.ensures
