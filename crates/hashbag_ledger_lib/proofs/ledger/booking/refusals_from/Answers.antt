use Rattle.std.proofs.Common.{◌++◌, List, ap, rules, refl}
use Rattle.std.specs.Vec.Iter.{into_iter_items}
use Rattle.hashbag_ledger_lib.specs.declared.movements.Refusal.{Refusal}
use Rattle.hashbag_ledger_lib.specs.Entries.{refusals_in}
use Rattle.hashbag_ledger_lib.proofs.BookLemmas.{refusals_first}
use Rattle.hashbag_ledger_lib.proofs.ListLemmas.{all_gathered, one_gathered, one_less}
use Rattle.hashbag_ledger_lib.proofs.ledger.booking.refusals_from.Goals as goal

-- none has come
pub loop-entry-init : goal.loop-entry-init
loop-entry-init g c = record {
  long = search rules;
  whole = ap (λ (l : List (Refusal g.row.T.Denot)). l ++ refusals_in (into_iter_items c.into_iter-entry-iterator.result)) c.new-refusals.ensures.items;
}

-- one more has
pub loop-entry-preserved : goal.loop-entry-preserved
loop-entry-preserved g c =
    let at = c.loop-entry in
    record {
      long = one_less _ _ _ _ _ c.in-Some.ensures.steps.0 c.in-Some.ensures.steps.1 at.invariant.long;
      whole = one_gathered refusals_in _ _ _ _ _ _ _ c.in-Some.ensures.steps.0 c.in_ok-push_refusal.ensures at.invariant.whole (refusals_first c.in-Some.entry (into_iter_items c.next.new.self));
    }

-- all have
pub returns : goal.returns
returns g c =
    let at = c.loop-entry in
    all_gathered refusals_in _ _ _ _ _ refl at.invariant.long c.in-None.ensures.steps.0 at.invariant.whole c.into_iter-entry-iterator.ensures.into_iter_gives.0
