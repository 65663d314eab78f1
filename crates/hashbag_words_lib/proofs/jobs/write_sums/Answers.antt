use Rattle.std.proofs.Common.{[], Some}
use Rattle.std.proofs.lemmas.Result.{on_ok_weaker}
use Rattle.hashbag_words_lib.specs.declared.choice.Choice.{Choice}
use Rattle.hashbag_words_lib.specs.declared.writing.Format.{Format}
use Rattle.hashbag_words_lib.proofs.JobLemmas.{sums_written}
use Rattle.hashbag_words_lib.proofs.jobs.write_sums.Goals as goal

pub returns-in-Ok-summed : goal.returns-in-Ok-summed
returns-in-Ok-summed g c =
    let shown : Choice × Format = (c.args.choice, c.args.format) in
    on_ok_weaker c.ended_sums.result.1
    (λ ends. sums_written g.B.Blocks.ended c.args.reading c.args.names.now c.args.inputs.now c.count_all-summed.new.inputs g.W.TextOutput.written c.args.output c.ended_sums.result.0
    shown c.new-counter.result c.count_all-summed.new.counter c.into_sink-sums.result c.new-counter.ensures.form c.new-counter.ensures.bad_lines
    (λ none. c.new-counter.ensures.begins (Some shown) [] (c.in-Ok.ensures none)) (c.into_sink-sums.ensures.added (Some shown)) ends c.in-Ok-summed.ensures) c.ended_sums.ensures
