use Rattle.hashbag_words_lib.proofs.CountedLemmas.{Counted-nothing}
use Rattle.hashbag_words_lib.proofs.counter.TextCounter.new.Goals as goal

pub returns-clause-begins : goal.returns-clause-begins
returns-clause-begins g c before has =
    Counted-nothing g.K.TokenSink.has c.args.rule before c.args.sink c.new.result.items c.new-2.result has c.new.ensures.items c.new-2.ensures.unread
