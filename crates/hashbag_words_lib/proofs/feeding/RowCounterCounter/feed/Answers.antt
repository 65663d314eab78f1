use Rattle.std.proofs.lemmas.Result.{on_ok_weaker}
use Rattle.hashbag_words_lib.proofs.CounterLemmas.{file_fed}
use Rattle.hashbag_words_lib.proofs.feeding.RowCounterCounter.feed.Goals as goal

pub returns : goal.returns
returns g c =
    on_ok_weaker c.feed.result (file_fed g.K.RowSink.has c.args.self.now c.feed.new.self c.feed.ensures.form c.feed.ensures.bad_lines c.args.block.now) c.feed.ensures.added
