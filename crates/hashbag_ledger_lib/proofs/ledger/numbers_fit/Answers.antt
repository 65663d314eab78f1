use Rattle.std.proofs.Common.{◌≡◌, ◌≤◌, ◌∙◌, ℕ, List, sum_by, ap, arith}
use Rattle.std.proofs.lemmas.Bool.{leb-true, le-leb}
use Rattle.std.proofs.lemmas.List.{take_all}
use Rattle.hashbag_csv.specs.Quantities.{number_sum}
use Rattle.hashbag_ledger_lib.proofs.ledger.numbers_fit.Goals as goal

-- all have been added
pub returns : goal.returns
returns g c =
    let at = c.loop-entry in
    let all = take_all at.entry-index c.args.list.now (omega arith) in
    let sum : at.total ≡ number_sum c.args.list.now = at.invariant.sum ∙ ap (λ (l : List (g.row.T.Denot × ℕ)). sum_by (λ e. e.1) l) all in (
      λ yes. let within : at.total ≤ c.args.most = leb-true at.total c.args.most yes in omega arith,
      λ within. le-leb at.total c.args.most (omega arith),
    )
