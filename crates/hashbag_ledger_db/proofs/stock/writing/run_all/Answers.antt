use Rattle.std.proofs.Common.{◌≡◌, ◌+◌, List, [], ◌∷◌, ◌++◌, take, refl, sym, ◌∙◌, ap, subst, arith}
use Rattle.std.proofs.lemmas.List.{take_more}
use Rattle.sqlite.specs.Held.{state}
use Rattle.sqlite.specs.State.{HasCleanDisk}
use Rattle.hashbag_ledger_db.specs.Commits.{RunsAll}
use Rattle.hashbag_ledger_db.specs.Statements.{Run, run_of, runs_of}
use Rattle.hashbag_ledger_db.specs.declared.stock.statements.Statement.{Statement}
use Rattle.hashbag_ledger_db.proofs.InsideLemmas.{inside_then, runs_more}
use Rattle.hashbag_ledger_db.proofs.StatementLemmas.{one_more}
use Rattle.hashbag_ledger_db.proofs.stock.writing.run_all.Goals as goal

-- one more statement
pub loop-statement-preserved : goal.loop-statement-preserved
loop-statement-preserved g c =
    let at = c.loop-statement in
    let all = c.args.statements.now in
    let one = c.statement-item.result in
    let step = c.in_ok-run.ensures.step in
    let taken : take (at.statement-index + 1) all ≡ take at.statement-index all ++ one ∷ [] = take_more all at.statement-index one c.loop-statement-test.true ∙ ap (λ (x : Statement). take at.statement-index all ++ x ∷ []) (sym c.statement-item.is) in
    let listed : runs_of (take (at.statement-index + 1) all) ≡ runs_of (take at.statement-index all) ++ run_of one ∷ [] = ap runs_of taken ∙ one_more (take at.statement-index all) one in
    record {
      same_connection = c.in_ok-run.ensures.same_connection ∙ at.invariant.same_connection;
      inside = inside_then _ _ _ at.invariant.inside step.inside;
      ran = λ clean.
          let earlier : HasCleanDisk (state g.S.Store at.transaction.conn.now) = omega (arith, step.inside.survives.clean, clean) in
          subst (λ (l : List Run). RunsAll g.S.Store l c.args.transaction.now.conn.now c.run.new.transaction.conn.now) (sym listed)
          (runs_more g.S.Store (runs_of (take at.statement-index all)) (run_of one) c.args.transaction.now.conn.now at.transaction.conn.now c.run.new.transaction.conn.now (at.invariant.ran earlier) (step.ran clean refl));
    }
