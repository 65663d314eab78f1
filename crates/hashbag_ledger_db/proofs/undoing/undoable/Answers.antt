use Rattle.std.proofs.Common.{◌≡◌, ℤ, All, subst, w64, to_z, of_z, rules}
use Rattle.hashbag_ledger_lib.specs.Kinds.{Undoes}
use Rattle.hashbag_ledger_lib.specs.declared.once.Batch.{Batch}
use Rattle.hashbag_ledger_db.proofs.undoing.undoable.Goals as goal

-- the number that was looked for is the number of the batch
pub returns-in-None : goal.returns-in-None
returns-in-None c =
    let number = c.in_ok-batch.batch.now.number in
    let read : to_z w64 (of_z w64 number) ≡ number = search rules in
    subst (λ (n : ℤ). All (λ (b : Batch). ¬ (Undoes n b)) c.args.batches.now) read c.in-None.ensures
