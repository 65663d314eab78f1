use Rattle.std.proofs.Common.{None, sym, subst}
use Rattle.std.proofs.lemmas.Result.{on_ok_weaker}
use Rattle.hashbag_words_lib.specs.Counts.{HasRows}
use Rattle.hashbag_words_lib.proofs.JobLemmas.{rows_added}
use Rattle.hashbag_words_lib.proofs.jobs.add_rows.Goals as goal

pub returns : goal.returns
returns g c =
    on_ok_weaker c.count_all-added.result
    (rows_added g.B.Blocks.ended c.args.reading c.args.names.now c.args.inputs.now c.count_all-added.new.inputs c.args.bag.now c.into_sink.result
    c.args.form c.new-counter.result c.count_all-added.new.counter c.new-counter.ensures.form c.new-counter.ensures.bad_lines
    (λ before has. c.new-counter.ensures.begins None before (subst (λ b. HasRows b before) (sym c.replace-given.ensures.value) has)) (c.into_sink.ensures.added None)) c.count_all-added.ensures
