use Rattle.std.proofs.lemmas.Result.{on_ok_weaker}
use Rattle.hashbag_words_lib.proofs.CounterLemmas.{file_ended}
use Rattle.hashbag_words_lib.proofs.feeding.RowCounterCounter.end.Goals as goal

pub returns : goal.returns
returns g c =
    on_ok_weaker c.end_file.result (file_ended g.K.RowSink.has c.args.self.now c.end_file.new.self c.end_file.ensures.form c.end_file.ensures.bad_lines) c.end_file.ensures.added
