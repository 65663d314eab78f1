use Rattle.std.proofs.Common.{◌∷◌, [], OnOk, subst}
use Rattle.hashbag_words_lib.specs.Counts.{Takes}
use Rattle.hashbag_words_lib.proofs.counting.add_folded.Goals as goal

pub returns : goal.returns
returns g c = subst (λ t. OnOk c.put_token.result (Takes g.K.TokenSink.has c.args.sink.now c.put_token.new.self (t ∷ []))) c.in_ok-token.ensures c.put_token.ensures
