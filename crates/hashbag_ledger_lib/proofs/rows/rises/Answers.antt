use Rattle.std.proofs.Common.{◌≡◌, IsTrue, ℕ, List, [], string_bytes, sym, subst}
use Rattle.std.proofs.lemmas.List.{nil_from_length}
use Rattle.hashbag_ledger_lib.specs.Changes.{Rises, IsBefore}
use Rattle.hashbag_ledger_lib.proofs.ChangeLemmas.{none_rise, rises_on, rises_after, first_is_before}
use Rattle.hashbag_ledger_lib.proofs.rows.rises.Goals as goal

-- the first of the rows that are left doesn't come before the next one
pub returns-then-not-is_before : goal.returns-then-not-is_before
returns-then-not-is_before c =
    let first = c.in-Some.first.now in
    let others = c.in-Some.others.now in
    let before : Rises c.args.balance.now → IsTrue c.is_before.result = λ rises.
    c.is_before.ensures.1 (subst (λ (v : List ℕ). IsBefore v others) (sym c.as_str.ensures.value)
    (first_is_before first others (subst Rises c.in-Some.ensures.cases.0 (c.rows.invariant.1 rises)))) in
    ((λ never. absurd (cc)), λ rises. absurd (let is = before rises in cc))

-- it does
pub rows-preserved : goal.rows-preserved
rows-preserved c =
    let first = c.in-Some.first.now in
    let others = c.in-Some.others.now in
    let before : IsBefore (string_bytes first.0) others = subst (λ (v : List ℕ). IsBefore v others) c.as_str.ensures.value (c.is_before.ensures.0 (cc)) in (
      (λ rises. c.rows.invariant.0 (subst Rises (sym c.in-Some.ensures.cases.0) (rises_on first others before rises))),
      λ rises. rises_after first others (subst Rises c.in-Some.ensures.cases.0 (c.rows.invariant.1 rises)),
    )

-- no rows are left
pub returns : goal.returns
returns c =
    let none : c.rows.rest.now ≡ [] = nil_from_length _ c.in_default.ensures.cases in
    ((λ always. c.rows.invariant.0 (subst Rises (sym none) none_rise)), λ rises. cc)
