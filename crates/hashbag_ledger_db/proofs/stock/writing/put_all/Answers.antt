use Rattle.std.proofs.Common.{◌≡◌, true, false, sym, subst, rules}
use Rattle.sqlite.specs.Held.{state}
use Rattle.sqlite.specs.State.{HasCleanDisk}
use Rattle.hashbag_ledger_db.specs.Commits.{IsInside, IsOneCommit, RunsAll}
use Rattle.hashbag_ledger_db.specs.Statements.{runs_of}
use Rattle.hashbag_ledger_db.proofs.CommitLemmas.{failed, nothing_begun, undone_at_end, not_committed, committed_at_end}
use Rattle.hashbag_ledger_db.proofs.stock.writing.put_all.Goals as goal

-- a transaction was open
pub returns-then-not-is_autocommit : goal.returns-then-not-is_autocommit
returns-then-not-is_autocommit g c = record { commit = nothing_begun g.S.Store (runs_of c.args.statements.now) c.args.conn.now }

-- a statement failed
pub returns-in_err-run_all : goal.returns-in_err-run_all
returns-in_err-run_all g c =
    let old = c.args.conn.now in
    let runs = runs_of c.args.statements.now in
    let mid = c.run_all.new.transaction.conn.now in
    let inside : IsInside (state g.S.Store (record old { in_transaction = true })) (state g.S.Store mid) = rw c.transaction-transaction.ensures.begun at c.run_all.ensures.inside in
    let end = c.drop-transaction.new.self.0 in
    let same : end ≡ c.conn-1.given.0 = search rules in
    record {
      commit = subst (λ b. IsOneCommit g.S.Store runs old c.conn-1.given.0 b) (sym (failed c.from_residual.result c.from_residual.ensures.0))
          (subst (λ h. IsOneCommit g.S.Store runs old h false) same (undone_at_end g.S.Store runs old mid inside end c.drop-transaction.ensures.undone c.drop-transaction.ensures.survives));
    }

-- the commit failed
pub returns-in_err-commit : goal.returns-in_err-commit
returns-in_err-commit g c =
    let old = c.args.conn.now in
    let runs = runs_of c.args.statements.now in
    let mid = c.run_all.new.transaction.conn.now in
    let inside : IsInside (state g.S.Store (record old { in_transaction = true })) (state g.S.Store mid) = rw c.transaction-transaction.ensures.begun at c.run_all.ensures.inside in
    let end = c.commit.new.self.0 in
    let same : end ≡ c.conn-2-1.given.0 = search rules in
    record {
      commit = subst (λ b. IsOneCommit g.S.Store runs old c.conn-2-1.given.0 b) (sym (failed c.from_residual-in_err-commit.result c.from_residual-in_err-commit.ensures.0))
          (subst (λ h. IsOneCommit g.S.Store runs old h false) same (not_committed g.S.Store runs old mid inside end c.in_err-commit.field-0.0 c.in_err-commit.ensures.err c.commit.ensures.survives));
    }

-- it was made
pub returns : goal.returns
returns g c =
    let old = c.args.conn.now in
    let runs = runs_of c.args.statements.now in
    let mid = c.run_all.new.transaction.conn.now in
    let inside : IsInside (state g.S.Store (record old { in_transaction = true })) (state g.S.Store mid) = rw c.transaction-transaction.ensures.begun at c.run_all.ensures.inside in
    let ran : HasCleanDisk (state g.S.Store mid) → RunsAll g.S.Store runs (record old { in_transaction = true }) mid = rw c.transaction-transaction.ensures.begun at c.in_ok-run_all.ensures.ran in
    let end = c.commit.new.self.0 in
    let same : end ≡ c.conn-2-1.given.0 = search rules in
    record {
      commit = subst (λ h. IsOneCommit g.S.Store runs old h true) same
          (committed_at_end g.S.Store runs old mid inside ran end (λ clean. (c.in_ok-commit.ensures.ok clean).1) c.commit.ensures.survives);
    }
