use Rattle.std.proofs.Common.{◌<◌, arith, sym, ◌∙◌}
use Rattle.std.proofs.lemmas.Result.{err_from_is_err_and}
use Rattle.hashbag_table.specs.Tables.{room}
use Rattle.hashbag_core.specs.Bag.{occurrences}
use Rattle.hashbag_core.specs.Occurrences.{count}
use Rattle.hashbag_core.proofs.InsertLemmas.{inserts_none}
use Rattle.hashbag_core.proofs.KeyLemmas.{inserts_added}
use Rattle.hashbag_core.proofs.OccurrenceLemmas.{add_occurrences, tally_added, count_occurrences, count_in_tally}
use Rattle.std.proofs.lemmas.Bool.{false≢true}
use Rattle.hashbag_core.proofs.HeldLemmas.{absent_from_table, held_by, none_left}
use Rattle.hashbag_core.proofs.bag.HashBag.insert_many.Goals as goal

pub add-requires-clause-fits : goal.add-requires-clause-fits
add-requires-clause-fits g c =
    let few = count_in_tally g.met.T.Eq.laws c.args.value _ _ c.self.invariant in
    let sum = c.self.invariant.sum in
    let within = c.self.invariant.fits in
    let small = c.self.invariant.limit in
    let fits = c.if-n-self.false in
    omega arith

pub returns-in_err-before-clause-fails : goal.returns-in_err-before-clause-fails
returns-in_err-before-clause-fails g c =
    let error = err_from_is_err_and c.from_residual.result c.from_residual.ensures.1 in
    let absent = absent_from_table g.met.T.Eq.laws c.args.value c.self.inside.table.entries c.self.invariant.counted c.in_err-before.ensures.fails.absent in
    let sum = c.self.invariant.sum in
    let within = c.self.invariant.fits in
    let fits = c.if-n-self.false in
    let some = c.if-n-eq0.false in
    rw (error.1, error.2, ← c.self.view_is) (record {
      why = (omega (arith, sum, within, fits), omega (arith, some), absent);
      full = λ _. none_left (room c.self.inside.table.tables) (λ space. false≢true (c.in_err-before.ensures.fails.takes space));
    })

pub returns-in_err-before-clause-too_many : goal.returns-in_err-before-clause-too_many
returns-in_err-before-clause-too_many g c =
    let error = err_from_is_err_and c.from_residual.result c.from_residual.ensures.1 in
    let sum = c.self.invariant.sum in
    let within = c.self.invariant.fits in
    let fits = c.if-n-self.false in
    rw (error.1, error.2, ← c.self.view_is) ((λ is. absurd (cc)), (λ over. absurd (omega (arith, sum, within, fits, over))))

-- the total with n more
pub invariant_of-self-2 : goal.invariant_of-self-2
invariant_of-self-2 g c =
    let within = c.self.invariant.fits in
    let fits = c.if-n-self.false in
    let sum = c.self.invariant.sum in
    tally_added g.met.T.Eq.laws c.args.value c.args.n _ c.add.new.self.entries c.self.inside.len c.self.invariant c.add.ensures.counted (omega arith) (add_occurrences g.met.T.Eq.laws c.args.value c.args.n _ _ c.self.invariant.counted c.in_ok-before.ensures.added.map.means)

pub returns-clause-before : goal.returns-clause-before
returns-clause-before g c = rw (← c.self.view_is) (c.in_ok-before.ensures.before ∙ sym (count_occurrences g.met.T.Eq.laws c.args.value _ c.self.invariant.counted.distinct))

pub returns-in_err-before-clause-takes : goal.returns-in_err-before-clause-takes
returns-in_err-before-clause-takes g c = λ fits some. absurd (false≢true (c.in_err-before.ensures.fails.takes (rw (← c.self.view_is) at some)))

pub returns-then-n-eq0-clause-inserted : goal.returns-then-n-eq0-clause-inserted
returns-then-n-eq0-clause-inserted g c = inserts_none g.met.T.Eq.laws c.args.value c.args.n c.args.self.now (let none = c.if-n-eq0.true in omega arith) c.contains.ensures.bag

pub returns-clause-inserted : goal.returns-clause-inserted
returns-clause-inserted g c =
    let some : 0 < c.args.n = let not_none = c.if-n-eq0.false in omega arith in
    rw (← c.self.view_is) (inserts_added g.met.T.Eq.laws c.args.value c.args.n c.self.inside.len c.self.inside.table c.add.new.self some c.self.invariant (invariant_of-self-2 g c) c.in_ok-before.ensures.added (held_by g.T.PartialEq.eq _ _ c.show_invariant.ensures.entries c.add.ensures.counted))

pub returns-in_err-before-clause-present : goal.returns-in_err-before-clause-present
returns-in_err-before-clause-present g c = λ fits there.
    let none = absent_from_table g.met.T.Eq.laws c.args.value c.self.inside.table.entries c.self.invariant.counted c.in_err-before.ensures.fails.absent in
    let some : 0 < count g.T.PartialEq.eq c.args.value (occurrences c.self.inside.table.entries) = rw (← c.self.view_is) at there in
    absurd (omega (arith, none, some))
