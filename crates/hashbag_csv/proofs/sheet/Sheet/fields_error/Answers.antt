use Rattle.std.proofs.Common.{inr, refl}
use Rattle.hashbag_csv.proofs.sheet.Sheet.fields_error.Goals as goal

pub returns : goal.returns
returns c = λ fits no. rw c.bad_line.ensures.1 (inr (refl, no))
