use Rattle.std.proofs.Common.{Err, ap, refl}
use Rattle.std.proofs.lemmas.Result.{err_from_is_err_and}
use Rattle.std.specs.String.{string_eq, string_eq_equiv}
use Rattle.hashbag_ledger_lib.specs.declared.entering.LedgerError.{LedgerError}
use Rattle.hashbag_ledger_lib.proofs.BookLemmas.{text_same, takes_entered, takes_refused}
use Rattle.hashbag_ledger_lib.proofs.RunLemmas.{ledger_past}
use Rattle.hashbag_ledger_lib.proofs.ledger.booking.outcome_of.Goals as goal

-- it would pass the limit
pub returns-in_err-refusal-clause-past : goal.returns-in_err-refusal-clause-past
returns-in_err-refusal-clause-past g c =
    let error = err_from_is_err_and c.from_residual-in_err-refusal.result c.from_residual-in_err-refusal.ensures.1 in
    rw (error.1, error.2)
    (λ p is L ms h. ledger_past string_eq c.args.movement.now c.args.stock.now c.in_err-refusal.field-0.0 p h is c.in_err-refusal.ensures.why (λ same. c.in_err-refusal.ensures.too_many.0 (ap (λ (x : LedgerError). Err x) same)))

-- it is refused
pub returns-in-Some-clause-next : goal.returns-in-Some-clause-next
returns-in-Some-clause-next g c = λ L ms h.
    let m = c.args.movement.now in
    let a = c.in_ok-clone.field-0 in
    takes_refused string_eq L ms m c.args.stock.now c.enter.new.stock h string_eq_equiv a (text_same m.article a c.in_ok-clone.ensures.cases) c.in-Some.refusal (rw c.in-Some.is at c.in_ok-refusal.ensures.refusal) ((rw c.in-Some.is at c.in_ok-refusal.ensures.unchanged) refl) c.in_ok-refusal.ensures.fits

-- it is entered
pub returns-in-None-clause-next : goal.returns-in-None-clause-next
returns-in-None-clause-next g c = λ L ms h.
    let m = c.args.movement.now in
    let a = c.in_ok-clone.field-0 in
    takes_entered string_eq L ms m c.args.stock.now c.enter.new.stock h string_eq_equiv a (text_same m.article a c.in_ok-clone.ensures.cases) (c.in_ok-refusal.ensures.entered c.in-None.is) (c.in_ok-refusal.ensures.total c.in-None.is) c.enter.ensures.limit c.in_ok-refusal.ensures.fits c.contains.result c.contains.ensures.count
