use Rattle.std.proofs.Common.{◌≡◌, ◌+◌, ◌-◌, List, ℕ, cond, length, take, sym, ◌∙◌, ap, arith}
use Rattle.std.proofs.Math.Seq.{take-length}
use Rattle.hashbag.specs.Occurrences.{count}
use Rattle.hashbag.proofs.CallerLemmas.{count_removed_any, count_take_next, left_after}
use Rattle.hashbag_callers.proofs.list_uses.take_each.Goals as goal

pub loop-value-preserved : goal.loop-value-preserved
loop-value-preserved g c = record {
  fewer = omega (arith, c.remove.ensures.len, c.loop-value.invariant.fewer);
  counts = λ v.
      let laws = g.met.T.Eq.laws in
      let item = c.value-item.result in
      let so_far = count g.T.PartialEq.eq v (take c.loop-value.value-index c.args.values.now) in
      left_after _ _ _ _ _ _ (c.loop-value.invariant.counts v) (count_removed_any laws c.loop-value.bag c.remove.new.self v item 1 c.remove.ensures.fewer.left)
      (count_take_next laws v c.args.values.now c.loop-value.value-index item c.loop-value-test.true ∙ ap (λ (x : g.row.T.Denot). so_far + cond (g.T.PartialEq.eq v x) 1 0) (sym c.value-item.is));
}

pub returns-clause-counts : goal.returns-clause-counts
returns-clause-counts g c = λ v.
    let eq = g.T.PartialEq.eq in
    let end : c.loop-value.value-index ≡ length c.args.values.now = omega arith in
    c.loop-value.invariant.counts v
    ∙ ap (λ (values : List g.row.T.Denot). count eq v c.args.bag.now.items - count eq v values) (ap (λ (k : ℕ). take k c.args.values.now) end ∙ take-length c.args.values.now)
