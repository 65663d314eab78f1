use Rattle.std.proofs.Common.{◌∙◌, ℕ, Result, Ok, Err, IfOk, IfErr, refl, subst, ap, arith}
use Rattle.std.specs.String.{string_eq, string_cmp}
use Rattle.hashbag_ledger_lib.specs.Entries.{refusals_in, IsBooked}
use Rattle.hashbag_ledger_lib.specs.Settled.{listed, IsPastWithin}
use Rattle.hashbag_ledger_lib.proofs.BatchLemmas.{continues}
use Rattle.hashbag_ledger_lib.proofs.BookLemmas.{refusals_are}
use Rattle.hashbag_ledger_lib.proofs.ledger.booking.book_batch.Goals as goal

if_ok_then : {A E : Type 0} (P G : A → Type 0) (r : Result A E) → IfOk r P → ((a : A) → P a → G a) → IfOk r G
if_ok_then P G (Ok a) p h = h a p
if_ok_then P G (Err e) p h = tt

if_err_then : {A E : Type 0} (P G : E → Type 0) (r : Result A E) → IfErr r P → ((e : E) → P e → G e) → IfErr r G
if_err_then P G (Ok a) p h = tt
if_err_then P G (Err e) p h = h e p

-- what the batch leaves, and what became of each movement
pub returns-clause-booked : goal.returns-clause-booked
returns-clause-booked g c =
    if_ok_then _ _ c.book_all.result c.book_all.ensures.booked
    (λ b booked. subst (λ (n : ℕ). IsBooked string_eq string_cmp n c.args.kept.items c.args.batch.items b.balance.items b.entries.items) c.in_ok-stock.ensures.limit (booked c.args.kept.items c.in_ok-stock.ensures.begun))

-- a movement would pass the limit
pub returns-clause-past : goal.returns-clause-past
returns-clause-past g c =
    if_err_then _ _ c.book_all.result c.book_all.ensures.past
    (λ e past p is. subst (λ (n : ℕ). IsPastWithin string_eq n c.args.kept.items c.args.batch.items p) c.in_ok-stock.ensures.limit (past p is c.args.kept.items c.in_ok-stock.ensures.begun))

-- the balance isn't too large
pub returns-clause-too_many : goal.returns-clause-too_many
returns-clause-too_many g c =
    let fits = c.in_ok-stock.ensures.fits in
    (λ is. absurd ((rw is at c.book_all.ensures.not_start) refl), λ over. absurd (omega arith))

-- the balance and the refusals of all movements in one turn
pub returns-clause-continues : goal.returns-clause-continues
returns-clause-continues g c =
    if_ok_then _ _ c.book_all.result c.book_all.ensures.booked
    (λ b booked start before were.
    let is = booked c.args.kept.items c.in_ok-stock.ensures.begun in
    continues string_eq string_cmp start before c.args.batch.items c.args.kept.items b.balance.items (refusals_in b.entries.items) were is.rows is.leaves
    (ap refusals_in is.each ∙ refusals_are string_eq (listed string_eq c.args.kept.items) c.args.batch.items))
