use Rattle.std.proofs.Common.{arith, sym, ◌∙◌, subst, refl}
use Rattle.hashbag_core.specs.Bag.{occurrences, IsTallied}
use Rattle.hashbag_core.specs.Occurrences.{count_named}
use Rattle.hashbag_core.proofs.HeldLemmas.{recounts_none}
use Rattle.hashbag_core.proofs.KeyLemmas.{all_gone, all_named, entry_in_tally, fewer_named, shorter_named, stored_named_occurrences, tally_named_less}
use Rattle.hashbag_table.proofs.KeyLemmas.{named_absent, named_present}
use Rattle.hashbag_core.proofs.bag.HashBag.take_all.Goals as goal

-- ---- nothing is there

pub invariant_of-self : goal.invariant_of-self
invariant_of-self g c = subst (λ t. IsTallied g.T.PartialEq.eq t.entries c.self.inside.len c.self.inside.most) (sym (c.in_err-instance.ensures.none refl)) c.self.invariant

pub returns-in_err-instance-clause-taken : goal.returns-in_err-instance-clause-taken
returns-in_err-instance-clause-taken g c =
    rw (← c.self.view_is) (c.from_residual.ensures ∙ c.in_err-instance.ensures.taken ∙ sym (stored_named_occurrences g.met.T.Eq.laws (g.Q.Key.names c.args.key) (g.met.Q.Key.names_one c.args.key) _ c.self.invariant.counted))

pub returns-in_err-instance-clause-fewer : goal.returns-in_err-instance-clause-fewer
returns-in_err-instance-clause-fewer g c =
    let es = c.self.inside.table.entries in
    let names = g.Q.Key.names c.args.key in
    let none = named_absent names es (sym c.in_err-instance.ensures.taken) in
    rw (← c.self.view_is)
    (fewer_named g.met.T.Eq.laws names (g.met.Q.Key.names_one c.args.key) (count_named names (occurrences es)) _ _ 0 c.self.inside.table c.remove.new.self c.self.invariant (invariant_of-self g c) (sym none)
    (all_gone g.met.T.Eq.laws names (g.met.Q.Key.names_one c.args.key) c.self.inside.table c.remove.new.self c.self.invariant.counted c.remove.ensures.left) (λ some. absurd (omega (arith, some))) (λ _. c.in_err-instance.ensures.none refl) c.remove.ensures.room)

pub returns-in_err-instance-clause-len : goal.returns-in_err-instance-clause-len
returns-in_err-instance-clause-len g c = rw c.from_residual.ensures (rw (← c.self.view_is) (sym (invariant_of-self g c).sum ∙ c.self.invariant.sum))

-- ---- all that were there are taken

pub overflow_sub-self : goal.overflow_sub-self
overflow_sub-self g c =
    entry_in_tally g.met.T.Eq.laws (g.Q.Key.names c.args.key) (g.met.Q.Key.names_one c.args.key) c.self.inside.table.entries c.self.inside.len _ c.self.invariant (sym c.in_ok-instance.ensures.taken)

pub invariant_of-self-2 : goal.invariant_of-self-2
invariant_of-self-2 g c =
    let names = g.Q.Key.names c.args.key in
    let is = all_named g.met.T.Eq.laws names (g.met.Q.Key.names_one c.args.key) c.self.inside.table.entries _ c.self.invariant.counted (sym c.in_ok-instance.ensures.taken) in
    tally_named_less g.met.T.Eq.laws names (g.met.Q.Key.names_one c.args.key) (count_named names (occurrences c.self.inside.table.entries)) c.in_ok-instance.count c.self.inside.len c.self.inside.table c.remove.new.self c.self.invariant (omega (arith, is.1, is.2))
    (λ none. absurd (omega (arith, is.0, is.1, none))) (all_gone g.met.T.Eq.laws names (g.met.Q.Key.names_one c.args.key) c.self.inside.table c.remove.new.self c.self.invariant.counted c.remove.ensures.left)

pub returns-clause-taken : goal.returns-clause-taken
returns-clause-taken g c =
    rw (← c.self.view_is) (c.in_ok-instance.ensures.taken ∙ sym (stored_named_occurrences g.met.T.Eq.laws (g.Q.Key.names c.args.key) (g.met.Q.Key.names_one c.args.key) _ c.self.invariant.counted))

pub returns-clause-fewer : goal.returns-clause-fewer
returns-clause-fewer g c =
    let names = g.Q.Key.names c.args.key in
    let counts = all_named g.met.T.Eq.laws names (g.met.Q.Key.names_one c.args.key) c.self.inside.table.entries _ c.self.invariant.counted (sym c.in_ok-instance.ensures.taken) in
    rw (← c.self.view_is)
    (fewer_named g.met.T.Eq.laws names (g.met.Q.Key.names_one c.args.key) (count_named names (occurrences c.self.inside.table.entries)) _ _ c.in_ok-instance.count c.self.inside.table c.remove.new.self c.self.invariant (invariant_of-self-2 g c) (sym counts.1)
    (all_gone g.met.T.Eq.laws names (g.met.Q.Key.names_one c.args.key) c.self.inside.table c.remove.new.self c.self.invariant.counted c.remove.ensures.left) (λ _. recounts_none names _ _ _ (omega (arith, counts.1, counts.2)) (c.in_ok-instance.ensures.slot refl)) (λ none. absurd (omega (arith, counts.0, none))) c.remove.ensures.room)

pub returns-clause-len : goal.returns-clause-len
returns-clause-len g c =
    let names = g.Q.Key.names c.args.key in
    let n = named_present names c.self.inside.table.entries _ (sym c.in_ok-instance.ensures.taken) in
    let shorter = shorter_named g.met.T.Eq.laws names (g.met.Q.Key.names_one c.args.key) c.in_ok-instance.count c.self.inside.len _ _ c.self.invariant (invariant_of-self-2 g c) (omega (arith, n)) in
    rw (← c.self.view_is) (omega (arith, shorter))
