use Rattle.std.proofs.lemmas.Result.{err_from_is_err_and}
use Rattle.hashbag_core.proofs.bag.HashBag.insert_within.Goals as goal

pub returns-in_err-insert_many-clause-fails : goal.returns-in_err-insert_many-clause-fails
returns-in_err-insert_many-clause-fails g c =
    let error = err_from_is_err_and c.from_residual.result c.from_residual.ensures.1 in
    rw (error.1, error.2) c.in_err-insert_many.ensures.fails
