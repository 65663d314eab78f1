use Rattle.hashbag_words_lib.proofs.CountLemmas.{row_inserted}
use Rattle.hashbag_words_lib.proofs.sinks.HashBagStringRowSink.put_row.Goals as goal

pub returns-clause-row : goal.returns-clause-row
returns-clause-row g c = row_inserted c.args.self.now c.insert_many.new.self c.args.token c.args.count c.in_ok-insert_many.ensures.inserted.added
