use Rattle.hashbag_ledger_lib.specs.Movements.{names_now}
use Rattle.hashbag_ledger_db.proofs.FiledLemmas.{moves_read, start_read}
use Rattle.hashbag_ledger_db.proofs.movements.read.Goals as goal

-- a file of movements
pub returns-then-not-input : goal.returns-then-not-input
returns-then-not-input c =
    moves_read c.args.job.now c.args.reading (names_now c.args.columns) c.args.input.now c.in_ok-plain_movements.field-0.items c.in_ok-movements.movements.items c.as_slice-text.result.now c.in_ok-plain_movements.ensures c.as_slice-text.ensures.value
    c.if-not-input.true c.in_ok-movements.ensures.movements

-- the stock at the beginning
pub returns : goal.returns
returns c =
    start_read c.args.job.now c.args.reading (names_now c.args.columns) c.args.input.now c.in_ok-plain_movements-2.field-0.items c.in_ok-movements-2.movements.items c.as_slice-text.result.now c.in_ok-plain_movements-2.ensures c.as_slice-text.ensures.value
    c.if-not-input.false c.in_ok-movements-2.ensures.movements
