use Rattle.std.proofs.Common.{◌≡◌, ◌<◌, arith, sym, ◌∙◌}
use Rattle.std.proofs.lemmas.Result.{err_from_is_err_and}
use Rattle.hashbag_core.specs.Bag.{occurrences}
use Rattle.hashbag_core.specs.Occurrences.{count_named}
use Rattle.hashbag_core.proofs.HeldLemmas.{held_by}
use Rattle.hashbag_core.proofs.KeyLemmas.{named_occurrences, none_named_there, named_in_tally, inserts_added}
use Rattle.hashbag_core.proofs.OccurrenceLemmas.{add_occurrences, tally_added}
use Rattle.hashbag_core.proofs.bag.HashBag.insert_many_key.Goals as goal

pub add_key-requires-clause-fits : goal.add_key-requires-clause-fits
add_key-requires-clause-fits g c =
    let few = named_in_tally g.met.T.Eq.laws (g.Q.Key.names c.args.key) (g.met.Q.Key.names_one c.args.key) _ _ c.self.invariant in
    let within = c.self.invariant.fits in
    let small = c.self.invariant.limit in
    let fits = c.if-n-self.false in
    omega arith

pub returns-in_err-before-clause-fails : goal.returns-in_err-before-clause-fails
returns-in_err-before-clause-fails g c =
    let error = err_from_is_err_and c.from_residual.result c.from_residual.ensures.1 in
    let absent : count_named (g.Q.Key.names c.args.key) (occurrences c.self.inside.table.entries) ≡ 0 =
    none_named_there g.met.T.Eq.laws (g.Q.Key.names c.args.key) (g.met.Q.Key.names_one c.args.key) _ c.self.invariant.counted.distinct c.in_err-before.ensures.absent in
    let sum = c.self.invariant.sum in
    let within = c.self.invariant.fits in
    let fits = c.if-n-self.false in
    let some = c.if-n-eq0.false in
    rw (error.1, error.2, ← c.self.view_is) (omega (arith, sum, within, fits), omega (arith, some), absent)

pub returns-in_err-before-clause-too_many : goal.returns-in_err-before-clause-too_many
returns-in_err-before-clause-too_many g c =
    let error = err_from_is_err_and c.from_residual.result c.from_residual.ensures.1 in
    let sum = c.self.invariant.sum in
    let within = c.self.invariant.fits in
    let fits = c.if-n-self.false in
    rw (error.1, error.2, ← c.self.view_is) ((λ is. absurd (cc)), (λ over. absurd (omega (arith, sum, within, fits, over))))

-- the total with n more
pub invariant_of-self-2 : goal.invariant_of-self-2
invariant_of-self-2 g c =
    let within = c.self.invariant.fits in
    let fits = c.if-n-self.false in
    let came = c.in_ok-before.ensures.added in
    tally_added g.met.T.Eq.laws came.0 c.args.n _ c.add_key.new.self.entries c.self.inside.len c.self.invariant c.add_key.ensures.counted (omega arith) (add_occurrences g.met.T.Eq.laws came.0 c.args.n _ _ c.self.invariant.counted came.2.map.means)

pub returns-clause-before : goal.returns-clause-before
returns-clause-before g c = rw (← c.self.view_is) (c.in_ok-before.ensures.before ∙ sym (named_occurrences g.met.T.Eq.laws (g.Q.Key.names c.args.key) (g.met.Q.Key.names_one c.args.key) _ c.self.invariant.counted.distinct))

pub returns-in_err-before-clause-present : goal.returns-in_err-before-clause-present
returns-in_err-before-clause-present g c = λ fits there.
    let none = none_named_there g.met.T.Eq.laws (g.Q.Key.names c.args.key) (g.met.Q.Key.names_one c.args.key) _ c.self.invariant.counted.distinct c.in_err-before.ensures.absent in
    let some : 0 < count_named (g.Q.Key.names c.args.key) (occurrences c.self.inside.table.entries) = rw (← c.self.view_is) at there in
    absurd (omega (arith, none, some))

pub returns-clause-inserted : goal.returns-clause-inserted
returns-clause-inserted g c = λ some.
    let came = c.in_ok-before.ensures.added in
    rw (← c.self.view_is) (came.0, came.1, inserts_added g.met.T.Eq.laws came.0 c.args.n c.self.inside.len c.self.inside.table c.add_key.new.self some c.self.invariant (invariant_of-self-2 g c) came.2 (held_by g.T.PartialEq.eq _ _ c.show_invariant.ensures.entries c.add_key.ensures.counted))

pub returns-clause-len : goal.returns-clause-len
returns-clause-len g c =
    let was = c.self.invariant.sum in
    let now = (invariant_of-self-2 g c).sum in
    rw (← c.self.view_is) (omega (arith, was, now))
