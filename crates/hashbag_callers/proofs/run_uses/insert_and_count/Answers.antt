use Rattle.std.proofs.Common.{List, ◌++◌, ◌∙◌, ap, subst}
use Rattle.std.proofs.lemmas.List.Sorted.{IsPermutation-refl}
use Rattle.hashbag.specs.Bag.{Means}
use Rattle.hashbag.specs.Script.{run}
use Rattle.hashbag.proofs.RunLemmas.{insert_row-fits, run-insert_count}
use Rattle.hashbag_callers.proofs.run_uses.insert_and_count.Goals as goal

pub returns-clause-replies : goal.returns-clause-replies
returns-clause-replies g c =
    let X = c.args.bag.now.items in
    let eq = g.T.PartialEq.eq in
    c.in_ok-run.ensures.replies X (IsPermutation-refl X) ∙ ap (λ begun. begun ++ (run eq c.args.bag.now.most X c.in_ok-steps.steps.items).1) c.new-replies.ensures.items ∙ ap (λ steps. (run eq c.args.bag.now.most X steps).1) c.in_ok-steps.ensures
    ∙ run-insert_count g.met.T.Eq.laws c.args.bag.now.most c.args.value X c.requires

-- the second step leaves what the first one did
pub returns-clause-left : goal.returns-clause-left
unfolding run
returns-clause-left g c =
    let X = c.args.bag.now.items in
    let eq = g.T.PartialEq.eq in
    let left = subst (λ steps. Means c.run.new.bag (run eq c.args.bag.now.most X steps).0) c.in_ok-steps.ensures (c.in_ok-run.ensures.means X (IsPermutation-refl X)) in
    subst (λ (l : List g.row.T.Denot). Means c.run.new.bag l) (ap (λ (r : List g.row.T.Denot × _). r.0) (insert_row-fits g.met.T.Eq.laws c.args.bag.now.most c.args.value 1 X c.requires)) left
