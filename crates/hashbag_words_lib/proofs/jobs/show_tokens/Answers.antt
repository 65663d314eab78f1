use Rattle.hashbag_words_lib.proofs.JobLemmas.{tokens_written}
use Rattle.hashbag_words_lib.proofs.jobs.show_tokens.Goals as goal

pub returns : goal.returns
returns g c =
    tokens_written g.B.Blocks.ended c.args.choice c.args.look c.args.reading c.args.names.now c.args.inputs.now c.count_tokens.new.inputs c.end_report.new.self c.args.bag.now c.count_tokens.new.bag
    c.show_bag.result c.show_bag.ensures c.end_report.ensures c.args.rule c.in_ok-count_tokens.ensures
