use Rattle.std.proofs.Common.{◌≡◌, arith, refl, sym}
use Rattle.std.proofs.lemmas.Bool.{false≢true}
use Rattle.std.proofs.lemmas.Result.{err_from_is_err_and}
use Rattle.hashbag_core.specs.Occurrences.{count}
use Rattle.hashbag_table.specs.Tables.{room}
use Rattle.hashbag_core.proofs.HeldLemmas.{none_left}
use Rattle.hashbag_core.proofs.InsertLemmas.{inserts_none}
use Rattle.hashbag_core.proofs.entry.Entry.or_insert_many.Goals as goal

pub returns-then-before-gt0-clause-occupied : goal.returns-then-before-gt0-clause-occupied
returns-then-before-gt0-clause-occupied g c = λ _. (cc (c.contains-before.ensures.count), refl)

pub returns-then-before-gt0-clause-none : goal.returns-then-before-gt0-clause-none
returns-then-before-gt0-clause-none g c = λ _. (refl, refl)

pub insert_new-requires-clause-positive : goal.insert_new-requires-clause-positive
insert_new-requires-clause-positive g c = omega arith

pub returns-in_err-insert_new-clause-none : goal.returns-in_err-insert_new-clause-none
returns-in_err-insert_new-clause-none g c = λ none. absurd (omega (arith, none))

pub returns-clause-none : goal.returns-clause-none
returns-clause-none g c = λ none. absurd (omega (arith, none))

pub returns-in_err-insert_new-clause-fails : goal.returns-in_err-insert_new-clause-fails
returns-in_err-insert_new-clause-fails g c =
    let error = err_from_is_err_and c.from_residual.result c.from_residual.ensures.1 in
    let is = c.in_err-insert_new.ensures.memory in
    let often = c.contains-before.ensures.count in
    let none : count g.T.PartialEq.eq c.args.self.value c.args.self.bag.now.items ≡ 0 = omega (arith, often) in
    rw (error.1, error.2, is) (record {
      why = (omega arith, omega arith, none);
      full = λ _. none_left (room c.args.self.bag.now.tables) (λ space. false≢true (c.in_err-insert_new.ensures.takes space));
    })

pub returns-in_err-insert_new-clause-too_many : goal.returns-in_err-insert_new-clause-too_many
returns-in_err-insert_new-clause-too_many g c =
    let error = err_from_is_err_and c.from_residual.result c.from_residual.ensures.1 in
    let is = c.in_err-insert_new.ensures.memory in
    let within = c.contains-before.ensures.bag.fits in
    rw (error.1, error.2, is) ((λ same. absurd (cc)), (λ over. let more = over.1 in absurd (omega arith)))

pub returns-then-n-eq0-clause-vacant : goal.returns-then-n-eq0-clause-vacant
returns-then-n-eq0-clause-vacant g c = λ _.
    let none : c.args.n ≡ 0 = let is = c.if-n-eq0.true in omega arith in
    (sym none, inserts_none g.met.T.Eq.laws c.args.self.value c.args.n c.args.self.bag.now none c.contains-before.ensures.bag)
