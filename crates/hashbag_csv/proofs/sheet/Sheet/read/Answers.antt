use Rattle.std.proofs.lemmas.Result.{err_from_is_err_and}
use Rattle.hashbag_csv.proofs.sheet.Sheet.read.Goals as goal

-- an error of a quote or of memory is one whatever the record fits
pub returns-in_err-found-clause-fault : goal.returns-in_err-found-clause-fault
returns-in_err-found-clause-fault c =
    let error = err_from_is_err_and c.from_residual.result c.from_residual.ensures.1 in
    rw (error.1, error.2) (c.in_err-found.ensures.fault _)
