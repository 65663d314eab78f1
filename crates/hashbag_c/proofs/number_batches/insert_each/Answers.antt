use Rattle.std.proofs.Common.{◌+◌, ℕ, nat_eq, take, ◌∙◌, ap, sym, arith}
use Rattle.std.specs.Cmp.{nat_eq_equiv}
use Rattle.hashbag_core.specs.Bag.{Bag}
use Rattle.hashbag_core.specs.Occurrences.{count}
use Rattle.hashbag_core.proofs.CallerLemmas.{count_inserted_any, count_take_next}
use Rattle.hashbag_c.specs.declared.state.State.{State}
use Rattle.hashbag_c.proofs.number_batches.insert_each.Goals as goal

pub loop-value-preserved : goal.loop-value-preserved
loop-value-preserved c = record {
  done = omega arith;
  len = omega (arith, c.in_ok-insert.ensures.inserted.len);
  counts = λ v.
      let before = c.loop-value.invariant.counts v in
      let one = count_inserted_any nat_eq_equiv c.loop-value.bag c.insert.new.self v _ 1 c.in_ok-insert.ensures.inserted.added in
      let next = count_take_next nat_eq_equiv v c.args.values.now c.loop-value.value-index 0 c.loop-value-test.true in
      omega arith;
}

pub returns-clause-counts : goal.returns-clause-counts
returns-clause-counts c = record { counts = λ v. c.loop-value.invariant.counts v ∙ ap (λ (k : ℕ). count nat_eq v c.args.bag.now.items + count nat_eq v (take k c.args.values.now)) (sym c.loop-value.invariant.done) }

pub returns-in_err-insert-clause-counts : goal.returns-in_err-insert-clause-counts
returns-in_err-insert-clause-counts c = record {
  counts = λ v.
      ap (λ (bag : Bag ℕ State). count nat_eq v bag.items) c.in_err-insert.ensures.err ∙ c.loop-value.invariant.counts v
      ∙ ap (λ (k : ℕ). count nat_eq v c.args.bag.now.items + count nat_eq v (take k c.args.values.now)) (sym c.loop-value.invariant.done);
}
