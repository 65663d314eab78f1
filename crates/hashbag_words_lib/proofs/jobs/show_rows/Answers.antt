use Rattle.hashbag_words_lib.proofs.JobLemmas.{rows_written}
use Rattle.hashbag_words_lib.proofs.jobs.show_rows.Goals as goal

pub returns : goal.returns
returns g c =
    rows_written g.B.Blocks.ended c.args.choice c.args.look c.args.reading c.args.names.now c.args.inputs.now c.add_rows.new.inputs c.end_report.new.self c.args.bag.now c.add_rows.new.bag
    c.show_bag.result c.show_bag.ensures c.end_report.ensures c.args.form c.in_ok-add_rows.ensures
