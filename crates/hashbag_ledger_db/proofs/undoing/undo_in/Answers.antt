use Rattle.std.proofs.Common.{◌≡◌, List, String, Global, refl, ◌∙◌, ap, w64, to_z, of_z, rules}
use Rattle.std.specs.Map.{keys_of}
use Rattle.hashbag_ledger_lib.specs.declared.extras.Extra.{Extra}
use Rattle.hashbag_ledger_lib.specs.declared.movements.Movement.{Movement}
use Rattle.hashbag_ledger_db.proofs.UndoneLemmas.{left, taken_back}
use Rattle.hashbag_ledger_db.proofs.undoing.undo_in.Goals as goal

-- an article would fall below zero
pub returns-in-Refused : goal.returns-in-Refused
returns-in-Refused g c =
    let same = c.in_ok-movements.ensures.firsts ∙ ap (λ (l : List (Movement (String Global) × Extra)). keys_of l) c.movements-movements.ensures in
    let below = rw (c.in-Refused.is, c.deref-2.ensures.value) at c.in_ok-undo.ensures.undo in
    left g.D.Store c.args.found c.args.conn.now c.args.conn.now _ c.in_ok-movements.movements.items same c.in_ok-denied-in-Refused.ensures refl below.0 below.1

-- the opposites were entered, and are written
pub returns : goal.returns
returns g c =
    let same = c.in_ok-movements.ensures.firsts ∙ ap (λ (l : List (Movement (String Global) × Extra)). keys_of l) c.movements-movements.ensures in
    let undone = rw (c.in-Done.is, c.deref-2.ensures.value) at c.in_ok-undo.ensures in
    let number = c.batch-number.result in
    let read : to_z w64 (of_z w64 number) ≡ number = search rules in
    let put = rw c.deref-in-Done-2.ensures.value at c.in_ok-message-in-Done.ensures in
    taken_back g.D.Store c.args.found c.args.conn.now c.put.new.conn 0 c.in_ok-movements.movements.items same (to_z w64 (of_z w64 number)) c.in-Done.booked c.in_ok-undo.changed.items
    (read ∙ c.batch-number.ensures) refl undone.undo undone.entries undone.changed put
