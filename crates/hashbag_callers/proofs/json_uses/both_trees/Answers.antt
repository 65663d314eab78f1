use Rattle.std.proofs.Common.{refl}
use Rattle.hashbag_callers.proofs.json_uses.both_trees.Goals as goal

pub returns-clause-same_trees : goal.returns-clause-same_trees
returns-clause-same_trees g c =
    c.in_ok-first.ensures.same c.args.b.now.items c.args.b.now.most _ c.in_ok-second.ensures.items (c.in_ok-second.ensures.tree c.args.b.now.items c.len-len.ensures.bag.one_instance (λ v. refl))
