use Rattle.std.proofs.Common.{arith, sym, ◌∙◌, ap, refl}
use Rattle.hashbag_core.proofs.OccurrenceLemmas.{bag_from_tally}
use Rattle.hashbag_table.proofs.KeyLemmas.{named_present}
use Rattle.hashbag_core.proofs.KeyLemmas.{entry_in_tally, fewer_named, named_occurrences, named_in_tally, shorter_named, some_gone, stored_named_occurrences, tally_named_less}
use Rattle.hashbag_core.proofs.HeldLemmas.{more_than_one, recounts_some, recounts_none}
use Rattle.hashbag_core.proofs.bag.HashBag.take_one.Goals as goal

-- ---- the last one

pub overflow_sub-self : goal.overflow_sub-self
overflow_sub-self g c = entry_in_tally g.met.T.Eq.laws (g.Q.Key.names c.args.key) (g.met.Q.Key.names_one c.args.key) c.self.inside.table.entries c.self.inside.len _ c.self.invariant c.in-Ok.ensures.last

pub invariant_of-self : goal.invariant_of-self
invariant_of-self g c =
    let names = g.Q.Key.names c.args.key in
    let there = named_present names c.self.inside.table.entries _ c.in-Ok.ensures.last in
    tally_named_less g.met.T.Eq.laws names (g.met.Q.Key.names_one c.args.key) 1 1 c.self.inside.len c.self.inside.table c.take_one.new.self c.self.invariant (omega (arith, there))
    (λ none. absurd (omega (arith, there, none))) (some_gone g.met.T.Eq.laws names (g.met.Q.Key.names_one c.args.key) 1 c.self.inside.table c.take_one.new.self c.self.invariant.counted c.take_one.ensures.taken)

pub returns-in-Ok-clause-fewer : goal.returns-in-Ok-clause-fewer
returns-in-Ok-clause-fewer g c =
    let names = g.Q.Key.names c.args.key in
    rw (← c.self.view_is)
    (fewer_named g.met.T.Eq.laws names (g.met.Q.Key.names_one c.args.key) 1 _ _ 1 c.self.inside.table c.take_one.new.self c.self.invariant (invariant_of-self g c) (sym (named_present names _ _ c.in-Ok.ensures.last))
    (some_gone g.met.T.Eq.laws names (g.met.Q.Key.names_one c.args.key) 1 c.self.inside.table c.take_one.new.self c.self.invariant.counted c.take_one.ensures.taken) (λ some. recounts_none names 0 _ _ refl c.in-Ok.ensures.gone) (λ none. absurd (omega (arith, none))) c.take_one.ensures.room)

pub returns-in-Ok-clause-len : goal.returns-in-Ok-clause-len
returns-in-Ok-clause-len g c =
    let names = g.Q.Key.names c.args.key in
    let present = named_present names c.self.inside.table.entries _ c.in-Ok.ensures.last in
    let shorter = shorter_named g.met.T.Eq.laws names (g.met.Q.Key.names_one c.args.key) 1 c.self.inside.len _ _ c.self.invariant (invariant_of-self g c) (omega (arith, present)) in
    rw (← c.self.view_is) (omega (arith, shorter))

pub returns-in-Ok-clause-last : goal.returns-in-Ok-clause-last
returns-in-Ok-clause-last g c =
    rw (← c.self.view_is) (stored_named_occurrences g.met.T.Eq.laws (g.Q.Key.names c.args.key) (g.met.Q.Key.names_one c.args.key) _ c.self.invariant.counted ∙ c.in-Ok.ensures.last)

pub returns-in-Ok-clause-bag : goal.returns-in-Ok-clause-bag
returns-in-Ok-clause-bag g c = rw (← c.self.view_is) (bag_from_tally g.met.T.Eq.laws _ _ c.self.invariant)

-- ---- one of several, or none

pub overflow_sub-self-in-Err : goal.overflow_sub-self-in-Err
overflow_sub-self-in-Err g c =
    let before = c.in-Err.ensures.others.0 in
    let few = named_in_tally g.met.T.Eq.laws (g.Q.Key.names c.args.key) (g.met.Q.Key.names_one c.args.key) c.self.inside.table.entries c.self.inside.len c.self.invariant in
    let one = c.min.ensures in
    omega (arith, before, few, one)

pub invariant_of-self-in-Err : goal.invariant_of-self-in-Err
invariant_of-self-in-Err g c =
    let names = g.Q.Key.names c.args.key in
    let others = c.in-Err.ensures.others in
    let one = c.min.ensures in
    let number = others.0 in
    tally_named_less g.met.T.Eq.laws names (g.met.Q.Key.names_one c.args.key) 1 c.min.result c.self.inside.len c.self.inside.table c.take_one.new.self c.self.invariant (omega (arith, number, one))
    (λ none. ap (λ t. t.entries) (c.in-Err.ensures.absent (number ∙ none))) (some_gone g.met.T.Eq.laws names (g.met.Q.Key.names_one c.args.key) 1 c.self.inside.table c.take_one.new.self c.self.invariant.counted c.take_one.ensures.taken)

pub returns-in-Err-clause-fewer : goal.returns-in-Err-clause-fewer
returns-in-Err-clause-fewer g c =
    let names = g.Q.Key.names c.args.key in
    let several = c.in-Err.ensures.others.1 in
    rw (← c.self.view_is)
    (fewer_named g.met.T.Eq.laws names (g.met.Q.Key.names_one c.args.key) 1 _ _ c.in-Err.before c.self.inside.table c.take_one.new.self c.self.invariant (invariant_of-self-in-Err g c) c.in-Err.ensures.others.0
    (some_gone g.met.T.Eq.laws names (g.met.Q.Key.names_one c.args.key) 1 c.self.inside.table c.take_one.new.self c.self.invariant.counted c.take_one.ensures.taken) (λ some. recounts_some names _ _ _ (more_than_one c.in-Err.before some several) (c.in-Err.ensures.fewer some)) c.in-Err.ensures.absent c.take_one.ensures.room)

pub returns-in-Err-clause-len : goal.returns-in-Err-clause-len
returns-in-Err-clause-len g c =
    let taken = c.min.ensures in
    let there = c.in-Err.ensures.others.0 in
    let shorter = shorter_named g.met.T.Eq.laws (g.Q.Key.names c.args.key) (g.met.Q.Key.names_one c.args.key) c.min.result c.self.inside.len _ _ c.self.invariant (invariant_of-self-in-Err g c) (omega (arith, there, taken)) in
    rw (← c.self.view_is) (omega (arith, taken, shorter))

pub returns-in-Err-clause-others : goal.returns-in-Err-clause-others
returns-in-Err-clause-others g c =
    rw (← c.self.view_is) (c.in-Err.ensures.others.0 ∙ sym (named_occurrences g.met.T.Eq.laws (g.Q.Key.names c.args.key) (g.met.Q.Key.names_one c.args.key) _ c.self.invariant.counted.distinct), c.in-Err.ensures.others.1)

pub returns-in-Err-clause-bag : goal.returns-in-Err-clause-bag
returns-in-Err-clause-bag g c = rw (← c.self.view_is) (bag_from_tally g.met.T.Eq.laws _ _ c.self.invariant)
