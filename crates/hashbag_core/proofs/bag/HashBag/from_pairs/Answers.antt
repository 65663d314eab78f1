use Rattle.std.proofs.Common.{◌≡◌, List, [], map, drop, refl, sym, ◌∙◌, subst, arith}
use Rattle.std.proofs.lemmas.List.{drop_all}
use Rattle.std.proofs.lemmas.Result.{err_from_is_err_and}
use Rattle.serde_json.specs.Data.{Data}
use Rattle.serde_json.specs.View.{view}
use Rattle.hashbag_core.proofs.InsertLemmas.{made_of}
use Rattle.hashbag_core.proofs.JsonReadLemmas.{IsReadTo, left_at, read_to_start, read_to_next, fault_at, may_run_out_at, no_fault_at_end, pairs_at_end}
use Rattle.hashbag_core.proofs.bag.HashBag.from_pairs.Goals as goal

pub loop-number-init : goal.loop-number-init
loop-number-init g c = record {
  read = read_to_start g.met.T.Eq.laws c.args.most g.T.JsonItem.has_item g.T.JsonItem.reads c.with_limit-bag.result _ c.with_limit-bag.ensures.empty;
  limit = c.with_limit-bag.ensures.limit;
  hasher = refl;
}

pub loop-number-preserved : goal.loop-number-preserved
loop-number-preserved g c =
    let inside = c.loop-number-test.true in
    let left = left_at c.deref-pair-items.result.now c.loop-number.number c.pair-item.result c.pair-item.is (omega arith) in
    let so = subst (λ (l : List Data). IsReadTo g.met.T.Eq.laws c.args.most g.T.JsonItem.has_item g.T.JsonItem.reads c.with_limit-bag.result (map view c.deref-pair-items.result.now) l c.loop-number.number c.loop-number.bag) left c.loop-number.invariant.read in
    let one = c.in_ok-read_pair.ensures.read in
    record {
      read = read_to_next g.met.T.Eq.laws c.args.most g.T.JsonItem.has_item g.T.JsonItem.reads c.with_limit-bag.result _ _ (view c.pair-item.result) c.loop-number.number _ _ one.0 so (rw c.loop-number.invariant.limit at c.in_ok-read_pair.ensures.no_fault) one.1 one.2 (rw (one.2.added.limit, c.loop-number.invariant.limit) at one.2.added.bag);
      limit = one.2.added.limit ∙ c.loop-number.invariant.limit;
      hasher = one.2.added.hasher ∙ c.loop-number.invariant.hasher;
    }

pub returns-in_err-read_pair-clause-fault : goal.returns-in_err-read_pair-clause-fault
returns-in_err-read_pair-clause-fault g c =
    let error = err_from_is_err_and c.from_residual.result c.from_residual.ensures.1 in
    rw (error.1, error.2, ← c.deref-pair-items.ensures.value) (λ other.
    let inside = c.loop-number-test.true in
    let left = left_at c.deref-pair-items.result.now c.loop-number.number c.pair-item.result c.pair-item.is (omega arith) in
    let so = subst (λ (l : List Data). IsReadTo g.met.T.Eq.laws c.args.most g.T.JsonItem.has_item g.T.JsonItem.reads c.with_limit-bag.result (map view c.deref-pair-items.result.now) l c.loop-number.number c.loop-number.bag) left c.loop-number.invariant.read in
    fault_at g.met.T.Eq.laws c.args.most g.T.JsonItem.has_item g.T.JsonItem.reads c.with_limit-bag.result _ _ (view c.pair-item.result) c.loop-number.number _ _ so (rw c.loop-number.invariant.limit at (c.in_err-read_pair.ensures.fault other)))

pub returns-in_err-read_pair-clause-may_run_out : goal.returns-in_err-read_pair-clause-may_run_out
returns-in_err-read_pair-clause-may_run_out g c =
    let error = err_from_is_err_and c.from_residual.result c.from_residual.ensures.1 in
    rw (error.1, error.2, ← c.deref-pair-items.ensures.value) (λ memory.
    let inside = c.loop-number-test.true in
    let left = left_at c.deref-pair-items.result.now c.loop-number.number c.pair-item.result c.pair-item.is (omega arith) in
    let so = subst (λ (l : List Data). IsReadTo g.met.T.Eq.laws c.args.most g.T.JsonItem.has_item g.T.JsonItem.reads c.with_limit-bag.result (map view c.deref-pair-items.result.now) l c.loop-number.number c.loop-number.bag) left c.loop-number.invariant.read in
    may_run_out_at g.met.T.Eq.laws c.args.most g.T.JsonItem.has_item g.T.JsonItem.reads c.with_limit-bag.result _ _ (view c.pair-item.result) c.loop-number.number _ so (c.in_err-read_pair.ensures.may_run_out memory))

-- all pairs were read
at_end : (g : _) (c : goal.After-loop-number g) → IsReadTo g.met.T.Eq.laws c.args.most g.T.JsonItem.has_item g.T.JsonItem.reads c.with_limit-bag.result (map view c.deref-pair-items.result.now) [] c.loop-number.number c.loop-number.bag
at_end g c =
    let past = c.loop-number-test.false in
    let none : drop c.loop-number.number c.deref-pair-items.result.now ≡ [] = drop_all c.loop-number.number c.deref-pair-items.result.now (omega arith) in
    subst (λ l. IsReadTo g.met.T.Eq.laws c.args.most g.T.JsonItem.has_item g.T.JsonItem.reads c.with_limit-bag.result (map view c.deref-pair-items.result.now) (map view l) c.loop-number.number c.loop-number.bag) none c.loop-number.invariant.read

pub returns-clause-no_fault : goal.returns-clause-no_fault
returns-clause-no_fault g c = rw (← c.deref-pair-items.ensures.value) (no_fault_at_end g.met.T.Eq.laws c.args.most g.T.JsonItem.has_item g.T.JsonItem.reads c.with_limit-bag.result _ c.loop-number.number _ (at_end g c))

pub returns-clause-read : goal.returns-clause-read
returns-clause-read g c =
    let so = at_end g c in
    rw (← c.deref-pair-items.ensures.value) (
      so.pairs,
      pairs_at_end g.met.T.Eq.laws c.args.most g.T.JsonItem.has_item g.T.JsonItem.reads c.with_limit-bag.result _ c.loop-number.number _ so,
      made_of g.met.T.Eq.laws c.with_limit-bag.result c.loop-number.bag so.pairs c.with_limit-bag.ensures.empty c.with_limit-bag.ensures.slots (c.loop-number.invariant.limit ∙ sym c.with_limit-bag.ensures.limit) c.loop-number.invariant.hasher so.turn,
    )
