use Rattle.hashbag_words_lib.proofs.CountLemmas.{token_inserted}
use Rattle.hashbag_words_lib.proofs.sinks.HashBagStringTokenSink.put_token.Goals as goal

pub returns : goal.returns
returns g c = token_inserted c.args.self.now c.insert.new.self c.args.token c.in_ok-insert.ensures.inserted.added
