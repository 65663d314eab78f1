use Rattle.std.proofs.Common.{sym, ap, subst}
use Rattle.hashbag_core.specs.Bag.{IsBagOf}
use Rattle.hashbag_script.proofs.RowLemmas.{bag_of_absent, none_from_stored, take_all_row-absent, take_all_row-some}
use Rattle.hashbag_script.proofs.StepLemmas.{sets_fewer}
use Rattle.hashbag_script.proofs.script.take_all.Goals as goal

pub returns-in-Some-clause-reply : goal.returns-in-Some-clause-reply
returns-in-Some-clause-reply g c = ap (λ p. p.1) (sym (take_all_row-some g.met.T.Eq.laws c.args.value.now c.args.bag.now.items c.in-Some.instance c.in-Some.count c.in-Some.ensures.taken))

pub returns-in-Some-clause-left : goal.returns-in-Some-clause-left
returns-in-Some-clause-left g c =
    subst (λ p. IsBagOf g.T.PartialEq.eq c.args.bag.now p.0 c.take_all.new.self) (sym (take_all_row-some g.met.T.Eq.laws c.args.value.now c.args.bag.now.items c.in-Some.instance c.in-Some.count c.in-Some.ensures.taken)) c.take_all.ensures.fewer.left

pub returns-in-None-clause-reply : goal.returns-in-None-clause-reply
returns-in-None-clause-reply g c =
    let none = none_from_stored g.met.T.Eq.laws c.args.value.now c.args.bag.now.items c.in-None.ensures.taken in
    ap (λ p. p.1) (sym (take_all_row-absent g.met.T.Eq.laws c.args.value.now c.args.bag.now.items none))

pub returns-in-None-clause-left : goal.returns-in-None-clause-left
returns-in-None-clause-left g c =
    let none = none_from_stored g.met.T.Eq.laws c.args.value.now c.args.bag.now.items c.in-None.ensures.taken in
    subst (λ p. IsBagOf g.T.PartialEq.eq c.args.bag.now p.0 c.take_all.new.self) (sym (take_all_row-absent g.met.T.Eq.laws c.args.value.now c.args.bag.now.items none))
    (bag_of_absent g.met.T.Eq.laws c.args.value.now _ c.args.bag.now c.take_all.new.self none c.take_all.ensures.fewer.left)

pub returns-in-Some-clause-tables : goal.returns-in-Some-clause-tables
returns-in-Some-clause-tables g c = sets_fewer g.met.T.Eq.laws c.args.value.now c.args.bag.now c.take_all.new.self _ c.take_all.ensures.fewer

pub returns-in-None-clause-tables : goal.returns-in-None-clause-tables
returns-in-None-clause-tables g c = sets_fewer g.met.T.Eq.laws c.args.value.now c.args.bag.now c.take_all.new.self _ c.take_all.ensures.fewer
