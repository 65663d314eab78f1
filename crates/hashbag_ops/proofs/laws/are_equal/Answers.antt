use Rattle.std.proofs.Common.{◌∙◌}
use Rattle.hashbag_core.proofs.CallerLemmas.{equal_from_counts}
use Rattle.hashbag_ops.proofs.laws.are_equal.Goals as goal

pub returns : goal.returns
returns g c = λ same. c.eq.ensures ∙ equal_from_counts g.met.T.Eq.laws c.args.a c.args.b same
