use Rattle.std.proofs.Common.{OnOk, ◌∙◌, subst}
use Rattle.hashbag_words_lib.specs.Counts.{Takes}
use Rattle.hashbag_words_lib.specs.Tokens.{tokens_of_line}
use Rattle.hashbag_words_lib.proofs.counting.add_replaced.Goals as goal

-- the text that was counted is that with the bytes replaced
pub returns : goal.returns
returns g c =
    subst (λ text. OnOk c.add_line.result (Takes g.K.TokenSink.has c.args.sink.now c.add_line.new.sink (tokens_of_line c.args.rule.now text)))
    (c.as_str.ensures.value ∙ c.in_ok-text.ensures.lossy) c.add_line.ensures
