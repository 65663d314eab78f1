use Rattle.std.proofs.Common.{ℕ, List, Option, OnOk, map, subst}
use Rattle.std.specs.Option.{option_to_list}
use Rattle.hashbag_words_lib.specs.Counts.{Takes}
use Rattle.hashbag_words_lib.specs.Tokens.{token_of}
use Rattle.hashbag_words_lib.proofs.CountLemmas.{Takes-nil}
use Rattle.hashbag_words_lib.proofs.counting.add_field.Goals as goal

pub returns-in-Some : goal.returns-in-Some
returns-in-Some g c =
    subst (λ (f : Option (List ℕ)). OnOk c.add_piece.result (Takes g.K.TokenSink.has c.args.sink.now c.add_piece.new.sink (map (token_of c.args.fold) (option_to_list f)))) c.in-Some.ensures c.add_piece.ensures

pub returns-in-None : goal.returns-in-None
returns-in-None g c =
    subst (λ (f : Option (List ℕ)). Takes g.K.TokenSink.has c.args.sink.now c.args.sink.now (map (token_of c.args.fold) (option_to_list f))) c.in-None.ensures (Takes-nil g.K.TokenSink.has c.args.sink.now)
