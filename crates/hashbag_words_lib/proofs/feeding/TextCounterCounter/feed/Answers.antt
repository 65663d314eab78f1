use Rattle.std.proofs.lemmas.Result.{on_ok_weaker}
use Rattle.hashbag_words_lib.proofs.CounterLemmas.{text_fed}
use Rattle.hashbag_words_lib.proofs.feeding.TextCounterCounter.feed.Goals as goal

pub returns : goal.returns
returns g c =
    on_ok_weaker c.feed.result (text_fed g.K.TokenSink.has c.args.self.now c.feed.new.self c.feed.ensures.rule c.feed.ensures.bad_lines c.args.block.now) c.feed.ensures.counted
