use Rattle.std.proofs.Common.{List, String, Global, ℕ, sym, subst}
use Rattle.hashbag_ledger_lib.specs.Changes.{Rises}
use Rattle.hashbag_ledger_lib.proofs.ChangeLemmas.{none_rise}
use Rattle.hashbag_ledger_db.proofs.before.before_in.Goals as goal

pub returns-in_default-clause-rising : goal.returns-in_default-clause-rising
returns-in_default-clause-rising g c = subst (λ (b : List (String Global × ℕ)). Rises b) (sym c.new.ensures.items) none_rise
