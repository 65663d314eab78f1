use Rattle.std.proofs.Common.{arith, ap, sym, ◌∙◌}
use Rattle.hashbag_core.proofs.HeldLemmas.{recounts_fewer}
use Rattle.hashbag_core.proofs.KeyLemmas.{fewer_named, named_occurrences, named_in_tally, shorter_named, some_gone, tally_named_less}
use Rattle.hashbag_core.proofs.bag.HashBag.take_up_to.Goals as goal

pub overflow_sub-self : goal.overflow_sub-self
overflow_sub-self g c =
    let few = named_in_tally g.met.T.Eq.laws (g.Q.Key.names c.args.key) (g.met.Q.Key.names_one c.args.key) _ _ c.self.invariant in
    let before = c.take_up_to-before.ensures.before in
    let one = c.min.ensures in
    omega arith

pub invariant_of-self : goal.invariant_of-self
invariant_of-self g c =
    let names = g.Q.Key.names c.args.key in
    let one = c.min.ensures in
    let number = c.take_up_to-before.ensures.before in
    tally_named_less g.met.T.Eq.laws names (g.met.Q.Key.names_one c.args.key) c.args.n c.min.result c.self.inside.len c.self.inside.table c.take_up_to-before.new.self c.self.invariant (omega (arith, number, one))
    (λ none. ap (λ t. t.entries) (c.take_up_to-before.ensures.none (number ∙ none))) (some_gone g.met.T.Eq.laws names (g.met.Q.Key.names_one c.args.key) c.args.n c.self.inside.table c.take_up_to-before.new.self c.self.invariant.counted c.take_up_to-before.ensures.taken)

pub returns-clause-before : goal.returns-clause-before
returns-clause-before g c =
    rw (← c.self.view_is) (c.take_up_to-before.ensures.before ∙ sym (named_occurrences g.met.T.Eq.laws (g.Q.Key.names c.args.key) (g.met.Q.Key.names_one c.args.key) _ c.self.invariant.counted.distinct))

pub returns-clause-len : goal.returns-clause-len
returns-clause-len g c =
    let taken = c.min.ensures in
    let there = c.take_up_to-before.ensures.before in
    let shorter = shorter_named g.met.T.Eq.laws (g.Q.Key.names c.args.key) (g.met.Q.Key.names_one c.args.key) c.min.result c.self.inside.len _ _ c.self.invariant (invariant_of-self g c) (omega (arith, taken, there)) in
    rw (← c.self.view_is) (omega (arith, taken, shorter))

pub returns-clause-fewer : goal.returns-clause-fewer
returns-clause-fewer g c =
    let names = g.Q.Key.names c.args.key in
    rw (← c.self.view_is)
    (fewer_named g.met.T.Eq.laws names (g.met.Q.Key.names_one c.args.key) c.args.n _ _ c.take_up_to-before.result c.self.inside.table c.take_up_to-before.new.self c.self.invariant (invariant_of-self g c) c.take_up_to-before.ensures.before
    (some_gone g.met.T.Eq.laws names (g.met.Q.Key.names_one c.args.key) c.args.n c.self.inside.table c.take_up_to-before.new.self c.self.invariant.counted c.take_up_to-before.ensures.taken) (λ some. recounts_fewer names c.take_up_to-before.result c.args.n _ _ some c.take_up_to-before.ensures.fewer c.take_up_to-before.ensures.gone) c.take_up_to-before.ensures.none c.take_up_to-before.ensures.room)
