use Rattle.std.proofs.Common.{arith}
use Rattle.hashbag_c.proofs.texts.recount.Goals as goal

pub returns-then-n-before-clause-too_many : goal.returns-then-n-before-clause-too_many
returns-then-n-before-clause-too_many c = (λ e. absurd (cc), λ more. let fits = c.limit-limit.ensures.within in let most = c.limit-limit.ensures.limit in absurd (omega arith))
