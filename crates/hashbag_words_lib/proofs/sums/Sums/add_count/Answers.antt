use Rattle.std.proofs.Common.{None, Some, sym, ◌∙◌}
use Rattle.hashbag_words_lib.proofs.SumLemmas.{counted_more, not_held}
use Rattle.hashbag_words_lib.proofs.sums.Sums.add_count.Goals as goal

-- none is held
pub returns-in_default-clause-row : goal.returns-in_default-clause-row
returns-in_default-clause-row g c token held = absurd (not_held c.args.self.now.held token (sym c.take.ensures.value ∙ c.in_default.is) held)

pub returns-in-Some-checked_add-clause-row : goal.returns-in-Some-checked_add-clause-row
returns-in-Some-checked_add-clause-row g c token held = counted_more g.W.TextOutput.written c.args.self.now c.in-Some.token c.in-Some.n c.args.count c.in-Some-checked_add.sum token (sym c.take.ensures.value ∙ c.in-Some.is) c.in-Some-checked_add.ensures.1 held
