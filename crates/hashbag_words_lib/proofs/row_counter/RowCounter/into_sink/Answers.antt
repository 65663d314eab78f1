use Rattle.hashbag_words_lib.proofs.AddedLemmas.{Added-none}
use Rattle.hashbag_words_lib.proofs.row_counter.RowCounter.into_sink.Goals as goal

pub returns-clause-added : goal.returns-clause-added
returns-clause-added g c shown before h = Added-none g.K.RowSink.has c.args.self.form shown before c.args.self.sink c.args.self.partial.items c.args.self.reading h
