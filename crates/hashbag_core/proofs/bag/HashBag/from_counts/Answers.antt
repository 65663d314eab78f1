use Rattle.std.proofs.Common.{◌∙◌}
use Rattle.hashbag_core.proofs.ExtendLemmas.{handed_on}
use Rattle.hashbag_core.proofs.InsertLemmas.{all_added, all_made, some_made}
use Rattle.hashbag_core.proofs.bag.HashBag.from_counts.Goals as goal

pub returns-clause-all : goal.returns-clause-all
returns-clause-all g c = all_made g.met.T.Eq.laws c.default_in-bag.ensures.empty c.default_in-bag.ensures.slots c.default_in-bag.ensures.limit c.in_ok-extend_many.ensures.all

pub returns-clause-hasher : goal.returns-clause-hasher
returns-clause-hasher g c = rw ((all_added g.met.T.Eq.laws c.in_ok-extend_many.ensures.all).hasher) c.default_in-bag.ensures.hasher

pub returns-clause-limit : goal.returns-clause-limit
returns-clause-limit g c = (all_added g.met.T.Eq.laws c.in_ok-extend_many.ensures.all).limit ∙ c.default_in-bag.ensures.limit

pub returns-in_err-extend_many-clause-fails : goal.returns-in_err-extend_many-clause-fails
returns-in_err-extend_many-clause-fails g c = handed_on c.from_residual.result c.in_err-extend_many.field-0.0 _ _ (λ x is. cc) c.from_residual.ensures.1
    (c.extend_many.new.self, some_made g.met.T.Eq.laws c.default_in-bag.ensures.empty c.default_in-bag.ensures.slots c.default_in-bag.ensures.limit c.in_err-extend_many.ensures.fails)
