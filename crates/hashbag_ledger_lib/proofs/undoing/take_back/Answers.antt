use Rattle.std.proofs.Common.{◌≡◌, ◌≢◌, ◌-◌, ◌^◌, ◌∙◌, ℕ, List, [], String, Global, ap, sym, subst, length}
use Rattle.std.proofs.lemmas.List.{nil_from_length}
use Rattle.std.proofs.lemmas.Result.{err_from_is_err_and}
use Rattle.std.specs.String.{string_eq, string_cmp, string_eq_equiv}
use Rattle.hashbag_ledger_lib.specs.declared.movements.Movement.{Movement}
use Rattle.hashbag_ledger_lib.specs.Entries.{refusals_in, entries_of}
use Rattle.hashbag_ledger_lib.specs.Ledger.{refused_of}
use Rattle.hashbag_ledger_lib.specs.Settled.{listed, IsPastWithin}
use Rattle.hashbag_ledger_lib.proofs.BookLemmas.{refusals_are}
use Rattle.hashbag_ledger_lib.proofs.UndoLemmas.{taken_back_by, falls_by, as_before, none_falls}
use Rattle.hashbag_ledger_lib.proofs.undoing.take_back.Goals as goal

-- none of the opposite movements was refused
pub returns-then-refused-eq0-clause-undo : goal.returns-then-refused-eq0-clause-undo
returns-then-refused-eq0-clause-undo g c =
    let start = listed string_eq c.args.kept.items in
    let opposite = c.in_ok-opposite.opposite.items in
    let b = c.in_ok-booked.booked in
    let booked = c.in_ok-booked.ensures.booked c.args.kept.items c.in_ok-stock.ensures.begun in
    let lent : c.deref.result.now ≡ b.entries.items = c.deref.ensures.value in
    let zero : length (refusals_in b.entries.items) ≡ 0 = (λ i. length (refusals_in (sym lent i))) ∙ sym c.count_refused-refused.ensures ∙ c.if-refused-eq0.true in
    let none : refused_of string_eq start opposite ≡ [] = sym (refusals_are string_eq start opposite) ∙ ap refusals_in (sym booked.each) ∙ nil_from_length _ zero in
    taken_back_by string_eq start string_cmp c.args.batch.items opposite b.balance.items c.in_ok-opposite.ensures none booked.rows booked.leaves

pub returns-then-refused-eq0-clause-last : goal.returns-then-refused-eq0-clause-last
returns-then-refused-eq0-clause-last g c = λ before was.
    as_before string_eq (listed string_eq c.args.kept.items) before c.args.batch.items was string_cmp c.in_ok-booked.booked.balance.items (returns-then-refused-eq0-clause-undo g c)

pub returns-then-refused-eq0-clause-entries : goal.returns-then-refused-eq0-clause-entries
returns-then-refused-eq0-clause-entries g c =
    let booked = c.in_ok-booked.ensures.booked c.args.kept.items c.in_ok-stock.ensures.begun in
    booked.each ∙ ap (entries_of string_eq (listed string_eq c.args.kept.items)) c.in_ok-opposite.ensures

pub returns-then-refused-eq0-clause-fit : goal.returns-then-refused-eq0-clause-fit
returns-then-refused-eq0-clause-fit g c = λ p.
    let booked = c.in_ok-booked.ensures.booked c.args.kept.items c.in_ok-stock.ensures.begun in
    subst (λ (l : List (Movement (String Global))). ¬ (IsPastWithin string_eq (2 ^ 63 - 1) c.args.kept.items l p)) c.in_ok-opposite.ensures
    (subst (λ (n : ℕ). ¬ (IsPastWithin string_eq n c.args.kept.items c.in_ok-opposite.opposite.items p)) c.in_ok-stock.ensures.limit (booked.fit p))

-- some was
pub returns-clause-undo : goal.returns-clause-undo
returns-clause-undo g c =
    let start = listed string_eq c.args.kept.items in
    let opposite = c.in_ok-opposite.opposite.items in
    let b = c.in_ok-booked.booked in
    let booked = c.in_ok-booked.ensures.booked c.args.kept.items c.in_ok-stock.ensures.begun in
    let lent : c.deref.result.now ≡ b.entries.items = c.deref.ensures.value in
    let some : refused_of string_eq start opposite ≢ [] = λ none.
    c.if-refused-eq0.false (c.count_refused-refused.ensures ∙ (λ i. length (refusals_in (lent i))) ∙ ap length (ap refusals_in booked.each ∙ refusals_are string_eq start opposite ∙ none)) in
    falls_by string_eq start string_eq_equiv c.args.batch.items opposite c.in_ok-opposite.ensures some

pub returns-clause-last : goal.returns-clause-last
returns-clause-last g c = λ before was.
    let found = returns-clause-undo g c in
    none_falls string_eq (listed string_eq c.args.kept.items) before c.args.batch.items was found.0 found.1

pub returns-clause-entries : goal.returns-clause-entries
returns-clause-entries g c =
    let start = listed string_eq c.args.kept.items in
    let booked = c.in_ok-booked.ensures.booked c.args.kept.items c.in_ok-stock.ensures.begun in
    c.in_ok-refusals_from.ensures ∙ ap refusals_in booked.each ∙ refusals_are string_eq start c.in_ok-opposite.opposite.items ∙ ap (refused_of string_eq start) c.in_ok-opposite.ensures

pub returns-clause-fit : goal.returns-clause-fit
returns-clause-fit g c = λ p.
    let booked = c.in_ok-booked.ensures.booked c.args.kept.items c.in_ok-stock.ensures.begun in
    subst (λ (l : List (Movement (String Global))). ¬ (IsPastWithin string_eq (2 ^ 63 - 1) c.args.kept.items l p)) c.in_ok-opposite.ensures
    (subst (λ (n : ℕ). ¬ (IsPastWithin string_eq n c.args.kept.items c.in_ok-opposite.opposite.items p)) c.in_ok-stock.ensures.limit (booked.fit p))

-- the opposites don't fit
pub returns-in_err-booked-clause-past : goal.returns-in_err-booked-clause-past
returns-in_err-booked-clause-past g c =
    let error = err_from_is_err_and c.from_residual-in_err-booked.result c.from_residual-in_err-booked.ensures.1 in
    rw (error.1, error.2)
    (λ p is.
    subst (λ (l : List (Movement (String Global))). IsPastWithin string_eq (2 ^ 63 - 1) c.args.kept.items l p) c.in_ok-opposite.ensures
    (subst (λ (n : ℕ). IsPastWithin string_eq n c.args.kept.items c.in_ok-opposite.opposite.items p) c.in_ok-stock.ensures.limit
    (c.in_err-booked.ensures.past p is c.args.kept.items c.in_ok-stock.ensures.begun)))
