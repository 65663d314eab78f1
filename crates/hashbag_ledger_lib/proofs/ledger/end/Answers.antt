use Rattle.std.proofs.Common.{ℕ, sym, subst}
use Rattle.hashbag_csv.specs.Quantities.{IsBalance}
use Rattle.hashbag_ledger_lib.specs.Ledger.{Leaves}
use Rattle.hashbag_ledger_lib.specs.Settled.{listed}
use Rattle.hashbag_ledger_lib.proofs.ledger.end.Goals as goal

pub returns-clause-balance : goal.returns-clause-balance
returns-clause-balance g c = λ L ms h.
    subst (λ (there : g.row.T.Denot → ℕ). IsBalance g.T.PartialEq.eq g.T.Ord.cmp there c.in_ok-balance.balance.items) (λ i v. h.leaves.counts v i) c.in_ok-balance.ensures.balance

pub returns-clause-leaves : goal.returns-clause-leaves
returns-clause-leaves g c = λ L ms h.
    subst (λ (there : g.row.T.Denot → ℕ). Leaves g.T.PartialEq.eq (listed g.T.PartialEq.eq L) ms there) (λ i v. sym (c.in_ok-balance.ensures.quantities v) i) h.leaves
