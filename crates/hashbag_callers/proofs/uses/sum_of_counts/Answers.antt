use Rattle.std.proofs.Common.{arith, refl, rules}
use borrow.Author.Tests.{tests}
use Rattle.std.proofs.lemmas.Iterator.{YieldsList-from_map}
use Rattle.std.proofs.lemmas.Iterator.Consumers.{YieldsList-from_first, YieldsList-at, fits_by_from_yields_list}
use Rattle.hashbag_callers.proofs.uses.sum_of_counts.Goals as goal

pub sum-requires-clause-fits : goal.sum-requires-clause-fits
sum-requires-clause-fits g c =
    let total = c.set_iter.ensures.total in
    let fits = c.set_iter.ensures.fits in
    fits_by_from_yields_list (λ e. e.1) c.set_iter.result c.map.result _
    (YieldsList-from_map _ (λ e. e.1) (YieldsList-at c.map.ensures.source (YieldsList-from_first (λ e. (e.0.now, e.1)) (λ s. s) c.set_iter.result refl)) c.map.ensures.closure (λ x r q k. search (rules, tests)))
    (omega arith)
