use Rattle.std.proofs.Common.{◌≡◌, ◌+◌, ◌∷◌, ◌++◌, [], ℕ, List, String, take, sym, ◌∙◌, ap, subst, arith}
use Rattle.std.proofs.lemmas.List.{take_all, take_more}
use Rattle.std.specs.Global.{Global}
use Rattle.sha2.specs.Hashers.{Holds256}
use Rattle.hashbag_ledger_lib.specs.declared.movements.Entry.{Entry}
use Rattle.hashbag_ledger_lib.specs.Seals.{with_movements}
use Rattle.hashbag_ledger_lib.proofs.SealLemmas.{movements_more}
use Rattle.hashbag_ledger_lib.proofs.sealing.add_movements.Goals as goal

-- one more movement
pub loop-entry-preserved : goal.loop-entry-preserved
loop-entry-preserved c =
    let at = c.loop-entry in
    let all = c.args.entries.now in
    let e = c.entry-item.result in
    let so_far = take at.entry-index all in
    let next : take (at.entry-index + 1) all ≡ so_far ++ e ∷ [] = take_more all at.entry-index e c.loop-entry-test.true ∙ ap (λ (x : Entry (String Global)). so_far ++ x ∷ []) (sym c.entry-item.is) in
    λ m held. subst (λ (l : List (Entry (String Global))). Holds256 c.add_movement.new.hasher (with_movements m l)) (sym next)
    (subst (λ (t : List ℕ). Holds256 c.add_movement.new.hasher t) (sym (movements_more m so_far e)) (c.add_movement.ensures (with_movements m so_far) (at.invariant m held)))

-- all movements
pub returns : goal.returns
returns c =
    let at = c.loop-entry in
    let all = take_all at.entry-index c.args.entries.now (omega arith) in
    λ m held. subst (λ (l : List (Entry (String Global))). Holds256 at.hasher (with_movements m l)) all (at.invariant m held)
