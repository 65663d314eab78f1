use Rattle.std.proofs.Common.{◌≡◌, [], false, true, sym, subst, ◌∙◌}
use Rattle.hashbag_ledger_db.specs.Commits.{IsOneCommit}
use Rattle.hashbag_ledger_db.proofs.CommitLemmas.{failed, nothing_begun}
use Rattle.hashbag_ledger_db.proofs.stock.writing.put_batches.Goals as goal

-- nothing was begun
pub returns-then-not-has_all_extras-clause-commit : goal.returns-then-not-has_all_extras-clause-commit
returns-then-not-has_all_extras-clause-commit g c = ([], (λ is. cc), nothing_begun g.S.Store [] c.args.conn.now)

pub returns-in_err-statements-clause-commit : goal.returns-in_err-statements-clause-commit
returns-in_err-statements-clause-commit g c =
    let no = failed c.from_residual.result c.from_residual.ensures.0 in
    ([], (λ is. absurd (let e : false ≡ true = sym no ∙ is in cc)), subst (λ b. IsOneCommit g.S.Store [] c.args.conn.now c.args.conn.now b) (sym no) (nothing_begun g.S.Store [] c.args.conn.now))
