use Rattle.std.proofs.Common.{◌<◌, refl, ap, arith}
use Rattle.std.specs.List.{IsDistinct}
use Rattle.std.proofs.lemmas.List.Elements.{All-nil}
use Rattle.hashbag_core.specs.Drain.{emptied}
use Rattle.hashbag_core.proofs.WalkLemmas.{set_walk_of_bag}
use Rattle.hashbag_core.proofs.bag.HashBag.drain.Goals as goal

-- an empty table and a total of 0
pub invariant_of-self-lent : goal.invariant_of-self-lent
unfolding IsDistinct
invariant_of-self-lent g c = λ w. record {
  sum = refl;
  fits = omega arith;
  limit = c.self.invariant.limit;
  counted = record { distinct = tt; positive = All-nil (λ n. 0 < n) };
}

pub returns : goal.returns
returns g c = (
  (refl, λ w. ap emptied c.self.view_is),
  record {
    ends_empty = tt;
    set_walk = rw (← c.self.view_is) (set_walk_of_bag g.met.T.Eq.laws _ _ _ _ _ c.self.invariant c.drain.ensures.entries);
  },
)
