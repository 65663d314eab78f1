use Rattle.hashbag_words_lib.proofs.CountLemmas.{token_named}
use Rattle.hashbag_words_lib.proofs.sinks.HashBagStringTokenSink.put_piece.Goals as goal

pub returns : goal.returns
returns g c = token_named c.args.self.now c.insert_key.new.self c.args.token.now c.in_ok-insert_key.ensures.inserted
