use Rattle.std.proofs.Common.{◌≡◌, ℤ, All, sym, subst, w64, to_z, of_z, rules}
use Rattle.hashbag_ledger_lib.specs.Kinds.{Undoes}
use Rattle.hashbag_ledger_lib.specs.declared.once.Batch.{Batch}
use Rattle.hashbag_ledger_db.proofs.undoing.found_in.Goals as goal

-- the movements that were read are those of the batch that no batch undoes
pub returns : goal.returns
returns g c =
    let number = c.in_ok-batch.batch.now.number in
    let read : to_z w64 (of_z w64 number) ≡ number = search rules in
    let entered = rw c.in_ok-entered.ensures at c.entered_of.ensures in
    let is : c.in_ok-entered.entered.batch ≡ number = cc in
    subst (λ (n : ℤ). All (λ (b : Batch). ¬ (Undoes n b)) c.in_ok-batches.batches.items) (sym is) (rw c.deref.ensures.value at c.in_ok-batch.ensures)
