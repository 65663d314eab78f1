use Rattle.std.proofs.Common.{◌≡◌, ◌-◌, ℕ, nat_eq, min, cond, List, get_or, refl, ◌∙◌, ap, arith}
use Rattle.std.specs.Cmp.{nat_eq_equiv}
use Rattle.hashbag_core.specs.Occurrences.{count}
use Rattle.hashbag_c.proofs.QuotaLemmas.{quota_past, allowed_more, count_set_any}
use Rattle.hashbag_c.proofs.number_batches.allowed.Goals as goal

pub loop-i-init : goal.loop-i-init
loop-i-init c = record {
  counts = λ v.
      let none : count nat_eq v c.with_limit-made.result.items ≡ 0 = ap (λ (X : List ℕ). count nat_eq v X) c.with_limit-made.ensures.empty in
      let past = quota_past nat_eq_equiv v c.args.values.now c.args.most.now c.min-i.result (omega (arith, c.min-i.ensures)) in
      omega (arith, none, past);
}

pub loop-i-preserved : goal.loop-i-preserved
loop-i-preserved c = record {
  counts = λ v.
      let i = c.loop-i.i - 1 in
      let u = get_or c.args.values.now i 0 in
      let n : c.min.result ≡ min (get_or c.args.most.now i 0) (count nat_eq u c.args.bag.now.items) = c.min.ensures ∙ ap (λ (k : ℕ). min (get_or c.args.most.now i 0) k) c.contains.ensures.count in
      let set = count_set_any nat_eq_equiv c.loop-i.made c.set_count.new.self v u c.min.result c.in_ok-set_count.ensures.set
      ∙ ap (λ (k : ℕ). cond (nat_eq v u) k (count nat_eq v c.loop-i.made.items)) n in
      allowed_more nat_eq_equiv v c.args.bag.now.items c.args.values.now c.args.most.now i c.loop-i.i u 0 (count nat_eq v c.set_count.new.self.items) (count nat_eq v c.loop-i.made.items)
      (omega arith) (omega arith) (omega arith) refl set (c.loop-i.invariant.counts v);
}
