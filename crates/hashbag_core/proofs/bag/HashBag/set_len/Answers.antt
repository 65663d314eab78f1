use Rattle.std.proofs.Common.{sym, ◌∙◌}
use Rattle.hashbag_core.proofs.DistinctLemmas.{distinct_count-occurrences}
use Rattle.hashbag_core.proofs.bag.HashBag.set_len.Goals as goal

pub returns : goal.returns
returns g c = rw (← c.self.view_is) (c.set_len.ensures.len ∙ sym (distinct_count-occurrences g.met.T.Eq.laws _ c.self.invariant.counted))
