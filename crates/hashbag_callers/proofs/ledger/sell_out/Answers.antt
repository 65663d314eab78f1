use Rattle.std.proofs.Common.{◌≡◌, ℕ, zero, suc, ◌<◌, Option, unwrap_or, refl, sym, ◌∙◌, ap, arith}
use Rattle.hashbag.specs.Occurrences.{count}
use Rattle.hashbag.proofs.CallerLemmas.{count_removed}
use Rattle.hashbag.proofs.TakeLemmas.{instance_less, stored_count, stored_instance}
use Rattle.hashbag_callers.proofs.ledger.sell_out.Goals as goal

none_there : (a b : ℕ) → (0 < a → 0 < b) → b ≡ 0 → a ≡ 0
none_there zero b some none = refl
none_there (suc a) b some none = let there = some (omega arith) in absurd (omega arith)

pub loop-last-preserved : goal.loop-last-preserved
loop-last-preserved g c =
    let left = count_removed g.met.T.Eq.laws c.loop-last.stock c.take_one.new.self c.args.article.now 1 c.take_one.ensures.fewer.left in
    let before = c.in-Err.ensures.others.0 in
    let long = c.in-Err.ensures.len in
    let so_far = c.loop-last.invariant.len in
    let fewer = c.loop-last.invariant.fewer in
    let not_one = c.in-Err.ensures.others.1 in
    let many : 1 < count g.T.PartialEq.eq c.args.article.now c.loop-last.stock.items = omega arith in
    record {
      len = omega arith;
      fewer = omega arith;
      some = λ some. omega arith;
      same = instance_less g.met.T.Eq.laws c.args.article.now c.loop-last.stock.items c.take_one.new.self.items c.take_one.ensures.bag c.take_one.ensures.fewer.left.bag many c.take_one.ensures.fewer.left.means ∙ c.loop-last.invariant.same;
    }

-- the last was the only one
pub returns-in-Ok-clause-none_left : goal.returns-in-Ok-clause-none_left
returns-in-Ok-clause-none_left g c =
    let left = count_removed g.met.T.Eq.laws c.loop-last.stock c.take_one.new.self c.args.article.now 1 c.take_one.ensures.fewer.left in
    let one = stored_count g.met.T.Eq.laws c.args.article.now c.loop-last.stock.items c.in-Ok.last 1 (sym c.in-Ok.ensures.last) in
    omega arith

pub returns-in-Err-eq0-clause-none_left : goal.returns-in-Err-eq0-clause-none_left
returns-in-Err-eq0-clause-none_left g c =
    let left = count_removed g.met.T.Eq.laws c.loop-last.stock c.take_one.new.self c.args.article.now 1 c.take_one.ensures.fewer.left in
    let before = c.in-Err-eq0.ensures.others.0 in
    omega arith

pub returns-in-Ok-clause-last : goal.returns-in-Ok-clause-last
returns-in-Ok-clause-last g c =
    stored_instance g.met.T.Eq.laws c.args.article.now c.loop-last.stock.items c.in-Ok.last 1 (sym c.in-Ok.ensures.last)
    ∙ ap (λ (o : Option g.row.T.Denot). unwrap_or o c.args.article.now) c.loop-last.invariant.same

pub returns-in-Err-eq0-clause-absent : goal.returns-in-Err-eq0-clause-absent
returns-in-Err-eq0-clause-absent g c = λ _. let before = c.in-Err-eq0.ensures.others.0 in none_there _ _ c.loop-last.invariant.some (omega arith)
