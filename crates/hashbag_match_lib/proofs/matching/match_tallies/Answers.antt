use Rattle.std.proofs.Common.{◌≡◌, ◌↔◌, Bool, IsTrue, sym, subst}
use Rattle.hashbag_csv.specs.Quantities.{quantity}
use Rattle.hashbag_match_lib.proofs.RowLemmas.{equal_exactly}
use Rattle.hashbag_match_lib.proofs.matching.match_tallies.Goals as goal

pub returns-clause-agree : goal.returns-clause-agree
returns-clause-agree g c = λ L M of_L of_M.
    let eq = g.T.PartialEq.eq in
    let exactly = equal_exactly g.met.T.Eq.laws c.args.ordered.now.counts c.args.delivered.now.counts (λ v. quantity eq v L) (λ v. quantity eq v M) of_L.counts of_M.counts in
    subst (λ (b : Bool). IsTrue b ↔ ((v : g.row.T.Denot) → quantity eq v L ≡ quantity eq v M)) (sym c.eq-agree.ensures) exactly
