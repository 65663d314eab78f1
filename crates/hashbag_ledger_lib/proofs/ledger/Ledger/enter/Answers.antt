use Rattle.std.proofs.Common.{◌≡◌, true, is_ok, Err, sym, ap, refl}
use Rattle.std.proofs.lemmas.Result.{err_from_is_err_and}
use Rattle.hashbag_ledger_lib.specs.declared.entering.LedgerError.{LedgerError}
use Rattle.hashbag_ledger_lib.proofs.RunLemmas.{ledger_entered, ledger_refused, ledger_past}
use Rattle.hashbag_ledger_lib.proofs.ledger.Ledger.enter.Goals as goal

-- it would pass the limit
pub returns-in_err-refusal-clause-past : goal.returns-in_err-refusal-clause-past
returns-in_err-refusal-clause-past g c =
    let error = err_from_is_err_and c.from_residual.result c.from_residual.ensures.1 in
    rw (error.1, error.2)
    (λ p is L ms h.
    ledger_past g.T.PartialEq.eq c.args.movement c.args.self.now.stock c.in_err-refusal.field-0.0 p h is c.in_err-refusal.ensures.why (λ same. c.in_err-refusal.ensures.too_many.0 (ap (λ (x : LedgerError). Err x) same)))

-- it is refused
pub returns-in_ok-map_err-clause-entered : goal.returns-in_ok-map_err-clause-entered
returns-in_ok-map_err-clause-entered g c = λ L ms h.
    let pushed : is_ok c.push.result ≡ true = sym (rw c.in_ok-map_err.was at c.map_err.ensures.variant) in
    ledger_refused g.T.PartialEq.eq c.args.movement c.args.self.now.stock c.enter.new.stock h c.in-Some.refusal c.push.new.self.items ((rw c.in-Some.is at c.in_ok-refusal.ensures.unchanged) refl) (rw pushed at c.push.ensures.items)
    (rw c.in-Some.is at c.in_ok-refusal.ensures.refusal) c.in_ok-refusal.ensures.fits

-- it is entered
pub returns-in_default-clause-entered : goal.returns-in_default-clause-entered
returns-in_default-clause-entered g c = λ L ms h.
    ledger_entered g.T.PartialEq.eq c.args.movement c.args.self.now.stock c.enter.new.stock h (c.in_ok-refusal.ensures.entered c.in_default.is) (c.in_ok-refusal.ensures.total c.in_default.is) c.enter.ensures.limit c.in_ok-refusal.ensures.fits
