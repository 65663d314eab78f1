use Rattle.hashbag_ledger_db.specs.Readings.{asked_style, plain_names}
use Rattle.hashbag_ledger_lib.specs.Movements.{names_now}
use Rattle.hashbag_ledger_db.proofs.FormLemmas.{filed_as}
use Rattle.hashbag_ledger_db.proofs.entering.filed_anew.Goals as goal

pub returns : goal.returns
returns g c =
    filed_as c.args.job.now c.asked_style.result (asked_style c.args.job.now) (names_now c.columns_or-columns.result) (names_now c.plain_columns.result) plain_names c.reading-reading.result
    c.args.inputs.now _ c.in_ok-filed.filed c.asked_style.ensures c.columns_or-columns.ensures c.plain_columns.ensures c.reading-reading.ensures c.in_ok-filed.ensures
