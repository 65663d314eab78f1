use Rattle.std.proofs.Common.{◌≡◌, sym, ◌∙◌, subst}
use Rattle.hashbag_core.specs.Bag.{IsBagOf}
use Rattle.hashbag_core.specs.Occurrences.{count}
use Rattle.hashbag_script.proofs.RowLemmas.{bag_of_absent, try_take_row-absent}
use Rattle.hashbag_script.proofs.StepLemmas.{sets_fewer}
use Rattle.hashbag_script.proofs.script.try_take.Goals as goal

pub returns-in-Err-eq0-clause-left : goal.returns-in-Err-eq0-clause-left
returns-in-Err-eq0-clause-left g c =
    let none : count g.T.PartialEq.eq c.args.value.now c.args.bag.now.items ≡ 0 = sym c.in-Err-eq0.ensures.others.0 ∙ c.in-Err-eq0.field-0-test in
    subst (λ p. IsBagOf g.T.PartialEq.eq c.args.bag.now p.0 c.take_one.new.self) (sym (try_take_row-absent g.met.T.Eq.laws c.args.value.now c.args.bag.now.items none))
    (bag_of_absent g.met.T.Eq.laws c.args.value.now 1 c.args.bag.now c.take_one.new.self none c.take_one.ensures.fewer.left)

pub returns-in-Ok-clause-tables : goal.returns-in-Ok-clause-tables
returns-in-Ok-clause-tables g c = sets_fewer g.met.T.Eq.laws c.args.value.now c.args.bag.now c.take_one.new.self 1 c.take_one.ensures.fewer

pub returns-in-Err-eq0-clause-tables : goal.returns-in-Err-eq0-clause-tables
returns-in-Err-eq0-clause-tables g c = sets_fewer g.met.T.Eq.laws c.args.value.now c.args.bag.now c.take_one.new.self 1 c.take_one.ensures.fewer

pub returns-in-Err-clause-tables : goal.returns-in-Err-clause-tables
returns-in-Err-clause-tables g c = sets_fewer g.met.T.Eq.laws c.args.value.now c.args.bag.now c.take_one.new.self 1 c.take_one.ensures.fewer
