use Rattle.std.proofs.Common.{[]}
use Rattle.std.proofs.lemmas.Result.{on_ok_weaker}
use Rattle.hashbag_words_lib.proofs.JobLemmas.{lines_written}
use Rattle.hashbag_words_lib.proofs.jobs.write_tokens.Goals as goal

pub returns-in-Ok : goal.returns-in-Ok
returns-in-Ok g c =
    on_ok_weaker c.ended.result.1
    (λ is. lines_written g.B.Blocks.ended c.args.reading c.args.names.now c.args.inputs.now c.count_all-written.new.inputs g.W.TextOutput.written c.args.output c.ended.result.0
    c.args.rule c.new-counter.result c.count_all-written.new.counter c.into_sink-lines.result c.new-counter.ensures.rule c.new-counter.ensures.bad_lines
    (λ none. c.new-counter.ensures.begins [] (c.new-lines.ensures none)) c.into_sink-lines.ensures.counted is c.in-Ok.ensures) c.ended.ensures
