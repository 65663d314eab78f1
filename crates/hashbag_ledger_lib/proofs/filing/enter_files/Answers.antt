use Rattle.std.proofs.Common.{◌≡◌, ℕ, ◌<◌, ◌-◌, ◌^◌, Err, List, String, string_eq, string_cmp, subst}
use Rattle.std.proofs.lemmas.Result.{err_from_is_err_and}
use Rattle.std.specs.Global.{Global}
use Rattle.hashbag_ledger_lib.specs.Batches.{all_of}
use Rattle.hashbag_ledger_lib.specs.declared.entering.LedgerError.TheVariants.{StartTooMany}
use Rattle.hashbag_ledger_lib.specs.declared.movements.Movement.{Movement}
use Rattle.hashbag_ledger_lib.specs.Entries.{IsBooked}
use Rattle.hashbag_ledger_lib.specs.Settled.{IsPastWithin}
use Rattle.hashbag_ledger_lib.proofs.CopyLemmas.{numbers_same, booked_same, past_same}
use Rattle.hashbag_ledger_lib.proofs.filing.enter_files.Goals as goal

-- the balance that is kept has the rows of its copy
pub returns-clause-booked : goal.returns-clause-booked
returns-clause-booked g c =
    let copy = c.in_ok-copy.copy.items in
    let booked = c.in_ok-booked.booked in
    booked_same copy c.args.kept.now c.in_ok-copy.ensures (2 ^ 63 - 1) _ booked.balance.items booked.entries.items
    (subst (λ (ms : List (Movement (String Global))). IsBooked string_eq string_cmp (2 ^ 63 - 1) copy ms booked.balance.items booked.entries.items) c.in_ok-all.ensures c.in_ok-booked.ensures.booked)

-- a movement would pass the limit
pub returns-in_err-booked-clause-past : goal.returns-in_err-booked-clause-past
returns-in_err-booked-clause-past g c =
    let copy = c.in_ok-copy.copy.items in
    let error = err_from_is_err_and c.from_residual-in_err-booked.result c.from_residual-in_err-booked.ensures.1 in
    rw (error.1, error.2)
    (λ p is. past_same copy c.args.kept.now c.in_ok-copy.ensures (2 ^ 63 - 1) (all_of c.args.files.items) p
    (subst (λ (ms : List (Movement (String Global))). IsPastWithin string_eq (2 ^ 63 - 1) copy ms p) c.in_ok-all.ensures (c.in_err-booked.ensures.past p is)))

-- the balance is too large
pub returns-in_err-booked-clause-start : goal.returns-in_err-booked-clause-start
returns-in_err-booked-clause-start g c =
    let copy = c.in_ok-copy.copy.items in
    let error = err_from_is_err_and c.from_residual-in_err-booked.result c.from_residual-in_err-booked.ensures.1 in
    λ is.
    let was : c.book_batch.result ≡ Err StartTooMany = cc (error.1, error.2, is, c.in_err-booked.is, c.in_err-booked.was) in
    subst (λ (n : ℕ). 2 ^ 63 - 1 < n) (numbers_same copy c.args.kept.now c.in_ok-copy.ensures) (c.book_batch.ensures.too_many.0 was)
