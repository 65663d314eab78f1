use Rattle.std.proofs.Common.{◌≡◌, ◌++◌, refl, ap, ◌∙◌}
use Rattle.hashbag_words_lib.proofs.SumLemmas.{nothing_summed}
use Rattle.hashbag_words_lib.proofs.sums.Sums.begin.Goals as goal

pub returns-in-Ok : goal.returns-in-Ok
returns-in-Ok g c = λ none. (refl, refl, nothing_summed (c.args.choice, c.args.format) _ _ (ap (λ l. l ++ c.extend_from_slice.new.self.items) none ∙ c.in-Ok.ensures.items ∙ ap (λ l. l ++ c.head.result.now) c.new-part.ensures.items ∙ c.head.ensures))
