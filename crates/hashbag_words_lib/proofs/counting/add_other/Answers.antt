use Rattle.std.proofs.Common.{ℕ, List, subst}
use Rattle.hashbag_words_lib.specs.Counts.{Takes}
use Rattle.hashbag_words_lib.proofs.ReadLemmas.{tokens_of_replaced}
use Rattle.hashbag_words_lib.proofs.counting.add_other.Goals as goal

-- the bytes were replaced
pub returns-then-rule-clause-counts : goal.returns-then-rule-clause-counts
returns-then-rule-clause-counts g c =
    subst (λ (l : List (List ℕ)). Takes g.K.TokenSink.has c.args.sink.now c.add_replaced.new.sink l) (tokens_of_replaced c.args.rule.now c.args.line.now c.requires c.if-rule.true) c.in_ok-add_replaced.ensures
