use Rattle.std.proofs.Common.{◌≡◌, inl, arith}
use Rattle.std.proofs.lemmas.Result.{err_from_is_err_and, on_ok_weaker, IfErr-weaker}
use Rattle.hashbag_core.specs.Inserts.{MayFail, MayFailCloning}
use Rattle.hashbag_core.proofs.InsertLemmas.{inserts_none, clone_fails}
use Rattle.hashbag_core.proofs.bag.HashBag.insert_clone.Goals as goal

pub returns-then-n-eq0-clause-inserted : goal.returns-then-n-eq0-clause-inserted
returns-then-n-eq0-clause-inserted g c =
    let none : c.args.n ≡ 0 = let is = c.if-n-eq0.true in omega arith in
    (c.args.value.now, (λ some. absurd (omega (arith, none, some))), inserts_none g.met.T.Eq.laws c.args.value.now c.args.n c.args.self.now none c.len.ensures.bag)

pub returns-in_err-clone-clause-fails : goal.returns-in_err-clone-clause-fails
returns-in_err-clone-clause-fails g c =
    let error = err_from_is_err_and c.from_residual.result c.from_residual.ensures.1 in
    let fits = c.if-n-limit.false in
    let some = c.if-n-eq0.false in
    let within = c.len.ensures.bag.fits in
    rw (error.1, error.2) (record { why = (omega (arith, fits, within), omega (arith, some)); memory = λ _. inl c.in_err-clone.ensures.cases })

pub returns-clause-inserted : goal.returns-clause-inserted
returns-clause-inserted g c =
    on_ok_weaker c.insert_within.result (λ went. (c.in_ok-clone.clone, (λ _. c.in_ok-clone.ensures.cases), went)) c.insert_within.ensures.inserted

pub returns-clause-fails : goal.returns-clause-fails
returns-clause-fails g c =
    let eq = g.T.PartialEq.eq in
    IfErr-weaker c.insert_within.result (MayFail eq c.args.self.now c.in_ok-clone.clone c.args.n) (MayFailCloning eq g.T.Clone.is_clone g.T.Clone.is_infallible c.args.self.now c.args.value.now c.args.n)
    (λ e declined. clone_fails g.met.T.Eq.laws g.T.Clone.is_clone g.T.Clone.is_infallible c.args.self.now c.args.value.now c.in_ok-clone.clone c.args.n e c.in_ok-clone.ensures.cases declined) c.insert_within.ensures.fails
