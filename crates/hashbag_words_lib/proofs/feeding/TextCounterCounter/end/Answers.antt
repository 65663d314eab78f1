use Rattle.std.proofs.lemmas.Result.{on_ok_weaker}
use Rattle.hashbag_words_lib.proofs.CounterLemmas.{text_ended}
use Rattle.hashbag_words_lib.proofs.feeding.TextCounterCounter.end.Goals as goal

pub returns : goal.returns
returns g c =
    on_ok_weaker c.end_text.result (text_ended g.K.TokenSink.has c.args.self.now c.end_text.new.self c.end_text.ensures.rule c.end_text.ensures.bad_lines) c.end_text.ensures.counted
