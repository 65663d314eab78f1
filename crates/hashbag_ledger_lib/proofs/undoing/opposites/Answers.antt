use Rattle.std.proofs.Common.{◌≡◌, ◌∷◌, [], List, sym, ◌∙◌, ap, subst}
use Rattle.std.specs.Vec.Iter.{into_iter_items}
use Rattle.std.proofs.lemmas.List.{nil_from_length}
use Rattle.hashbag_ledger_lib.specs.declared.movements.Movement.{Movement}
use Rattle.hashbag_ledger_lib.specs.Undos.{opposites_of}
use Rattle.hashbag_ledger_lib.proofs.UndoLemmas.{IsTurnedSoFar, one_turned, all_turned}
use Rattle.hashbag_ledger_lib.proofs.ListLemmas.{one_less}
use Rattle.hashbag_ledger_lib.proofs.undoing.opposites.Goals as goal

-- one more movement
pub loop-movement-preserved : goal.loop-movement-preserved
loop-movement-preserved g c =
    let at = c.loop-movement in
    let steps : into_iter_items at.movement-iterator ≡ c.in-Some.movement ∷ into_iter_items c.next.new.self = c.in-Some.ensures.steps.0 in
    record {
      long = one_less _ _ _ _ _ steps c.in-Some.ensures.steps.1 at.invariant.long;
      turned = one_turned c.turn.new.coming_in.items c.turn.new.going_out.items steps at.invariant.turned c.in_ok-turn.ensures.coming c.in_ok-turn.ensures.going;
    }

-- all have been turned
pub returns : goal.returns
returns g c =
    let at = c.loop-movement in
    let all = c.into_iter-movement-iterator.ensures.into_iter_gives.0 in
    let ended : into_iter_items at.movement-iterator ≡ [] = nil_from_length _ (sym at.invariant.long ∙ c.in-None.ensures.steps.0) in
    c.in_ok-append.ensures.items
    ∙ all_turned (subst (λ (l : List (Movement g.row.T.Denot)). IsTurnedSoFar (into_iter_items c.into_iter-movement-iterator.result) l at.all.items at.going.items) ended at.invariant.turned)
    ∙ ap opposites_of all
