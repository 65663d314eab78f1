use Rattle.std.proofs.Common.{refl}
use Rattle.hashbag_ledger_db.proofs.verifying.verdict_of.Goals as goal

-- no difference was found
pub returns-in-None : goal.returns-in-None
returns-in-None g c = (rw c.in-None.is at c.in_ok-what.ensures) refl
