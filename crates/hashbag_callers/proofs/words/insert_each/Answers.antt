use Rattle.std.proofs.Common.{◌≡◌, ◌+◌, ℕ, List, nat_eq, length, take, Result, Err, ◌∙◌, ap, arith}
use Rattle.std.specs.Cmp.{nat_eq_equiv}
use Rattle.std.proofs.lemmas.Result.{err_from_is_err_and}
use Rattle.std.proofs.Math.Seq.{take-length}
use Rattle.hashbag.specs.declared.BagError.{BagError}
use Rattle.hashbag.specs.declared.BagError.TheVariants.{Memory}
use Rattle.hashbag.specs.Occurrences.{count}
use Rattle.hashbag.proofs.CallerLemmas.{count_inserted_any, count_take_next, fails_for_memory}
use Rattle.hashbag_callers.proofs.words.insert_each.Goals as goal

pub loop-word-preserved : goal.loop-word-preserved
loop-word-preserved g c = record {
  len = omega (arith, c.in_ok-insert.ensures.inserted.len);
  limit = c.in_ok-insert.ensures.inserted.added.limit ∙ c.loop-word.invariant.limit;
  counts = λ v.
      let before = c.loop-word.invariant.counts v in
      let one = count_inserted_any nat_eq_equiv c.loop-word.bag c.insert.new.self v _ 1 c.in_ok-insert.ensures.inserted.added in
      let next = count_take_next nat_eq_equiv v c.args.words.now c.loop-word.word-index 0 c.loop-word-test.true in
      omega arith;
}

pub returns-clause-counts : goal.returns-clause-counts
returns-clause-counts g c = λ v.
    let end : c.loop-word.word-index ≡ length c.args.words.now = omega arith in
    c.loop-word.invariant.counts v
    ∙ ap (λ (words : List ℕ). count nat_eq v c.args.bag.now.items + count nat_eq v words) (ap (λ (k : ℕ). take k c.args.words.now) end ∙ take-length c.args.words.now)

pub returns-in_err-insert-clause-only_memory : goal.returns-in_err-insert-clause-only_memory
returns-in_err-insert-clause-only_memory g c = λ fits.
    let error = err_from_is_err_and c.from_residual.result c.from_residual.ensures.1 in
    let long = c.loop-word.invariant.len in
    let limit = c.loop-word.invariant.limit in
    let next = c.loop-word-test.true in
    let is : c.in_err-insert.field-0.0 ≡ Memory = fails_for_memory nat_eq c.loop-word.bag _ 1 (let r : Result ℕ BagError = Err c.in_err-insert.field-0.0 in r) c.in_err-insert.ensures.fails (omega (arith, long, limit, next, fits)) in
    rw (error.1, error.2) is
