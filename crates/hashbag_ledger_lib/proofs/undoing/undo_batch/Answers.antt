use Rattle.std.proofs.Common.{◌≡◌, ℕ, ◌<◌, ◌-◌, ◌^◌, Err, string_eq, subst}
use Rattle.std.proofs.lemmas.Result.{err_from_is_err_and}
use Rattle.hashbag_ledger_lib.specs.declared.entering.LedgerError.TheVariants.{StartTooMany}
use Rattle.hashbag_ledger_lib.specs.Settled.{listed}
use Rattle.hashbag_ledger_lib.specs.Undos.{opposites_of}
use Rattle.hashbag_ledger_lib.proofs.CopyLemmas.{numbers_same, past_same, undo_same, entries_same, undo_rises}
use Rattle.hashbag_ledger_lib.proofs.undoing.undo_batch.Goals as goal

-- the balance that is kept has the rows of its copy
pub returns-clause-undo : goal.returns-clause-undo
returns-clause-undo g c = undo_same c.in_ok-copy.copy.items c.args.kept.now c.in_ok-copy.ensures c.args.batch.items c.in_ok-undo.undo c.in_ok-undo.ensures.undo

pub returns-clause-entries : goal.returns-clause-entries
returns-clause-entries g c = entries_same c.in_ok-copy.copy.items c.args.kept.now c.in_ok-copy.ensures c.args.batch.items c.in_ok-undo.undo c.in_ok-undo.ensures.entries

pub returns-clause-changed : goal.returns-clause-changed
returns-clause-changed g c = λ rises. c.in_ok-changed.ensures rises (undo_rises (listed string_eq c.in_ok-copy.copy.items) c.args.batch.items c.in_ok-undo.undo c.in_ok-undo.ensures.undo)

-- the opposites don't fit
pub returns-in_err-undo-clause-past : goal.returns-in_err-undo-clause-past
returns-in_err-undo-clause-past g c =
    let error = err_from_is_err_and c.from_residual-in_err-undo.result c.from_residual-in_err-undo.ensures.1 in
    rw (error.1, error.2)
    (λ p is. past_same c.in_ok-copy.copy.items c.args.kept.now c.in_ok-copy.ensures (2 ^ 63 - 1) (opposites_of c.args.batch.items) p (c.in_err-undo.ensures.past p is))

-- the balance is too large
pub returns-in_err-undo-clause-start : goal.returns-in_err-undo-clause-start
returns-in_err-undo-clause-start g c =
    let error = err_from_is_err_and c.from_residual-in_err-undo.result c.from_residual-in_err-undo.ensures.1 in
    λ is.
    let was : c.take_back.result ≡ Err StartTooMany = cc (error.1, error.2, is, c.in_err-undo.is, c.in_err-undo.was) in
    subst (λ (n : ℕ). 2 ^ 63 - 1 < n) (numbers_same c.in_ok-copy.copy.items c.args.kept.now c.in_ok-copy.ensures) (c.take_back.ensures.too_many.0 was)
