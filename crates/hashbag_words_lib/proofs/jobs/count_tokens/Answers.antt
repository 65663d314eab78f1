use Rattle.std.proofs.Common.{sym, subst}
use Rattle.std.proofs.lemmas.Result.{on_ok_weaker}
use Rattle.hashbag_words_lib.specs.Counts.{HasTokens}
use Rattle.hashbag_words_lib.proofs.JobLemmas.{tokens_counted}
use Rattle.hashbag_words_lib.proofs.jobs.count_tokens.Goals as goal

pub returns : goal.returns
returns g c =
    on_ok_weaker c.count_all-counted.result
    (tokens_counted g.B.Blocks.ended c.args.reading c.args.names.now c.args.inputs.now c.count_all-counted.new.inputs c.args.bag.now c.into_sink.result
    c.args.rule c.new-counter.result c.count_all-counted.new.counter c.new-counter.ensures.rule c.new-counter.ensures.bad_lines
    (λ before has. c.new-counter.ensures.begins before (subst (λ b. HasTokens b before) (sym c.replace-given.ensures.value) has)) c.into_sink.ensures.counted) c.count_all-counted.ensures
