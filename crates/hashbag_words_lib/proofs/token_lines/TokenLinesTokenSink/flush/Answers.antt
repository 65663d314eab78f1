use Rattle.std.proofs.Common.{◌∙◌}
use Rattle.std.proofs.lemmas.Result.{on_ok_weaker}
use Rattle.hashbag_words_lib.proofs.token_lines.TokenLinesTokenSink.flush.Goals as goal

pub returns-clause-same : goal.returns-clause-same
returns-clause-same g c = on_ok_weaker c.end.result (λ same tokens h. same ∙ h) c.end.ensures.same
