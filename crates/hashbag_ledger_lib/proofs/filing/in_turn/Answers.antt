use Rattle.std.proofs.Common.{◌++◌, List, String, ap, rules, refl}
use Rattle.std.specs.Global.{Global}
use Rattle.std.specs.Vec.Iter.{into_iter_items}
use Rattle.hashbag_ledger_lib.specs.declared.movements.Movement.{Movement}
use Rattle.hashbag_ledger_lib.specs.Batches.{all_of}
use Rattle.hashbag_ledger_lib.proofs.ListLemmas.{all_gathered, one_gathered, one_less}
use Rattle.hashbag_ledger_lib.proofs.filing.in_turn.Goals as goal

-- none has come
pub loop-file-init : goal.loop-file-init
loop-file-init c = record {
  long = search rules;
  whole = ap (λ (l : List (Movement (String Global))). l ++ all_of (into_iter_items c.into_iter-file-iterator.result)) c.new-all.ensures.items;
}

-- one more has
pub loop-file-preserved : goal.loop-file-preserved
loop-file-preserved c =
    let at = c.loop-file in
    record {
      long = one_less _ _ _ _ _ c.in-Some.ensures.steps.0 c.in-Some.ensures.steps.1 at.invariant.long;
      whole = one_gathered all_of _ _ _ _ _ _ _ c.in-Some.ensures.steps.0 c.in_ok-append.ensures.items at.invariant.whole refl;
    }

-- all have
pub returns : goal.returns
returns c =
    let at = c.loop-file in
    all_gathered all_of _ _ _ _ _ refl at.invariant.long c.in-None.ensures.steps.0 at.invariant.whole c.into_iter-file-iterator.ensures.into_iter_gives.0
