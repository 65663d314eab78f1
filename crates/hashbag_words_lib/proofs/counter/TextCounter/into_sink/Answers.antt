use Rattle.hashbag_words_lib.proofs.CountedLemmas.{Counted-none}
use Rattle.hashbag_words_lib.proofs.counter.TextCounter.into_sink.Goals as goal

pub returns-clause-counted : goal.returns-clause-counted
returns-clause-counted g c before h = Counted-none g.K.TokenSink.has c.args.self.rule before c.args.self.sink c.args.self.partial.items c.args.self.reading h
