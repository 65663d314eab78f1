use Rattle.std.proofs.Common.{◌≡◌, ◌∷◌, [], List, String, Global, true, is_ok, refl, sym, ◌∙◌, subst, rules}
use Rattle.std.proofs.lemmas.List.{nil_from_length}
use Rattle.std.proofs.lemmas.Result.{err_from_is_err_and}
use Rattle.std.specs.String.{string_eq, string_cmp}
use Rattle.std.specs.Vec.Iter.{into_iter_items}
use Rattle.hashbag_ledger_lib.specs.declared.movements.Movement.{Movement}
use Rattle.hashbag_ledger_lib.specs.Settled.{IsPastWithin}
use Rattle.hashbag_ledger_lib.proofs.BookLemmas.{BookedSoFar, booked_none, booked_one, booked_past, booked_all}
use Rattle.hashbag_ledger_lib.proofs.ListLemmas.{one_less}
use Rattle.hashbag_ledger_lib.proofs.ledger.booking.book_all.Goals as goal

-- none has come
pub loop-movement-init : goal.loop-movement-init
loop-movement-init g c = record {
  long = search rules;
  booked = λ L h. subst (λ l. BookedSoFar string_eq L (into_iter_items c.into_iter-movement-iterator.result) (into_iter_items c.into_iter-movement-iterator.result) l c.args.stock) (sym c.new-entries.ensures.items) (booked_none string_eq L (into_iter_items c.into_iter-movement-iterator.result) c.args.stock h);
  limit = refl;
}

-- one more has
pub loop-movement-preserved : goal.loop-movement-preserved
loop-movement-preserved g c =
    let at = c.loop-movement in
    let steps : into_iter_items at.movement-iterator ≡ c.in-Some.movement ∷ into_iter_items c.next.new.self = c.in-Some.ensures.steps.0 in
    let pushed : is_ok c.push.result ≡ true = sym (rw c.in_ok-map_err.was at c.map_err.ensures.variant) in
    let noted = rw pushed at c.push.ensures.items in
    record {
      long = one_less _ _ _ _ _ steps c.in-Some.ensures.steps.1 at.invariant.long;
      booked = λ L h.
          subst (λ es. BookedSoFar string_eq L (into_iter_items c.into_iter-movement-iterator.result) (into_iter_items c.next.new.self) es c.outcome_of.new.stock) (sym noted)
          (booked_one string_eq L at.entries.items at.stock c.outcome_of.new.stock c.in-Some.movement c.in_ok-outcome.outcome steps (at.invariant.booked L h) (λ ms was. c.in_ok-outcome.ensures.next L ms was));
      limit = c.outcome_of.ensures.limit ∙ at.invariant.limit;
    }

-- it would pass the limit
pub returns-in_err-outcome-clause-past : goal.returns-in_err-outcome-clause-past
returns-in_err-outcome-clause-past g c =
    let error = err_from_is_err_and c.from_residual.result c.from_residual.ensures.1 in
    rw (error.1, error.2)
    (λ p is L h.
    let at = c.loop-movement in
    let all = c.into_iter-movement-iterator.ensures.into_iter_gives.0 in
    subst (λ (l : List (Movement (String Global))). IsPastWithin string_eq c.args.stock.most L l p) all
    (booked_past string_eq L at.entries.items at.stock c.args.stock.most c.in-Some.movement p c.in-Some.ensures.steps.0 at.invariant.limit (at.invariant.booked L h) (λ ms was. c.in_err-outcome.ensures.past p is L ms was)))

-- all have come
pub returns-clause-booked : goal.returns-clause-booked
returns-clause-booked g c = λ L h.
    let at = c.loop-movement in
    let all = c.into_iter-movement-iterator.ensures.into_iter_gives.0 in
    let ended : into_iter_items at.movement-iterator ≡ [] = nil_from_length _ (sym at.invariant.long ∙ c.in-None.ensures.steps.0) in
    booked_all string_eq string_cmp L at.entries.items at.stock c.args.stock.most c.in_ok-balance.balance.items ended at.invariant.limit all (at.invariant.booked L h) c.in_ok-balance.ensures.balance c.in_ok-balance.ensures.quantities
