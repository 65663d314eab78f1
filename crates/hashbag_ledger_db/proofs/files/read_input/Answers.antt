use Rattle.hashbag_ledger_db.proofs.InputLemmas.{ok_read}
use Rattle.hashbag_ledger_db.proofs.files.read_input.Goals as goal

pub returns-clause-read : goal.returns-clause-read
returns-clause-read g c =
    ok_read c.input_of.result (g.I.Inputs.gives c.args.files.now) c.args.job.now c.args.file.now c.args.is_start c.in_ok-bytes.bytes.items _
    c.input_of.ensures.named c.input_of.ensures.text c.in_ok-bytes.ensures c.encoding_of.ensures
