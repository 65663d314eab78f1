use Rattle.std.proofs.Common.{◌≡◌, length, ap, arith}
use Rattle.std.proofs.lemmas.List.Sorted.{IsPermutation-trans}
use Rattle.std.proofs.lemmas.Result.{on_ok_weaker}
use Rattle.hashbag_core.specs.Occurrences.{count}
use Rattle.hashbag_core.specs.Inserts.{Inserts}
use Rattle.hashbag_core.proofs.OccurrenceLemmas.{recount_absent}
use Rattle.hashbag_core.proofs.bag.HashBag.set_count.Goals as goal

pub returns-then-before-eq0-clause-set : goal.returns-then-before-eq0-clause-set
returns-then-before-eq0-clause-set g c =
    let often = c.contains-before.ensures.count in
    let none : count g.T.PartialEq.eq c.args.value c.args.self.now.items ≡ 0 = omega (arith, often) in
    on_ok_weaker c.insert_many.result
    (λ (into : Inserts g.T.PartialEq.eq c.args.value c.args.n c.args.self.now c.insert_many.new.self). record {
      means = IsPermutation-trans _ _ _ (recount_absent g.met.T.Eq.laws c.args.value c.args.n c.args.self.now.items none) into.added.means;
      hasher = into.added.hasher;
      limit = into.added.limit;
      bag = into.added.bag;
    })
    c.insert_many.ensures.inserted

pub returns-in-Err : goal.returns-in-Err
returns-in-Err g c =
    let often = c.contains-before.ensures.count in let some = c.if-before-eq0.false in
    let long = ap (λ b. length b.items) c.self.view_is in let most = ap (λ b. b.most) c.self.view_is in let sum = c.self.invariant.sum in let fits = c.self.invariant.fits in
    let is = c.in-Err.ensures.count.0 in let past = c.in-Err.ensures.count.1 (omega arith) in
    absurd (omega arith)
