use Rattle.std.proofs.lemmas.Result.{IfOk-weaker}
use Rattle.hashbag_match_lib.proofs.TextLemmas.{lists_rise, matched_in_order, texts_rise}
use Rattle.hashbag_match_lib.proofs.files.match_files.Goals as goal

-- articles of one column
pub returns-then-len-eq1-clause-matched : goal.returns-then-len-eq1-clause-matched
returns-then-len-eq1-clause-matched g c = IfOk-weaker c.match_as.result _ _ (λ made m. matched_in_order texts_rise m) c.match_as.ensures.matched

-- articles of several columns
pub returns-clause-matched : goal.returns-clause-matched
returns-clause-matched g c = IfOk-weaker c.match_as-2.result _ _ (λ made m. matched_in_order lists_rise m) c.match_as-2.ensures.matched
