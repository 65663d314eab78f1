use Rattle.std.proofs.Common.{◌∷◌, ◌++◌, [], filter, ap, rules, refl}
use Rattle.std.proofs.lemmas.List.Elements.{filter-append}
use Rattle.std.specs.Vec.Iter.{into_iter_items}
use Rattle.hashbag_ledger_lib.specs.Recalls.{is_of}
use Rattle.hashbag_ledger_lib.proofs.ListLemmas.{all_gathered, one_gathered, one_less}
use Rattle.hashbag_ledger_lib.proofs.recalling.own_of.Goals as goal

-- none has come
pub loop-entry-init : goal.loop-entry-init
loop-entry-init g c = record {
  long = search rules;
  whole = ap (λ l. l ++ filter (is_of c.args.batch) (into_iter_items c.into_iter-entry-iterator.result)) c.new-own.ensures.items;
}

-- one more has
pub loop-entry-preserved : goal.loop-entry-preserved
loop-entry-preserved g c =
    let at = c.loop-entry in
    record {
      long = one_less _ _ _ _ _ c.in-Some.ensures.steps.0 c.in-Some.ensures.steps.1 at.invariant.long;
      whole = one_gathered (filter (is_of c.args.batch)) _ _ _ _ _ _ _ c.in-Some.ensures.steps.0 c.in_ok-push_own.ensures at.invariant.whole (filter-append (is_of c.args.batch) (_ ∷ []) _);
    }

-- all have
pub returns : goal.returns
returns g c =
    let at = c.loop-entry in
    all_gathered (filter (is_of c.args.batch)) _ _ _ _ _ refl at.invariant.long c.in-None.ensures.steps.0 at.invariant.whole c.into_iter-entry-iterator.ensures.into_iter_gives.0
