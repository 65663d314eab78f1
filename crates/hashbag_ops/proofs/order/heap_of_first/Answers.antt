use Rattle.std.proofs.Common.{◌≡◌, ℕ, [], ◌∷◌, ◌++◌, map, sym, ◌∙◌, ap, subst, append_assoc, heap_items, rules}
use Rattle.std.specs.Borrow.{Bor}
use Rattle.std.proofs.lemmas.List.{append-nil, map-append}
use Rattle.hashbag_core.specs.Walks.{IsSetWalkOf, seen}
use Rattle.hashbag_ops.specs.Order.{counted_pair, comes_first, IsFirstOf}
use Rattle.hashbag_ops.proofs.MostCommonFirst.{first_none}
use Rattle.hashbag_ops.proofs.order.heap_of_first.Goals as goal

pub loop-value-init : goal.loop-value-init
loop-value-init g c = record {
  parts = search rules;
  heap = c.in_ok-heap.ensures.heap_order;
  first = subst (λ l. IsFirstOf (comes_first g.T.Ord.cmp) c.args.k [] (map counted_pair l)) (sym c.in_ok-heap.ensures.items) (first_none c.args.k);
}

pub loop-value-preserved : goal.loop-value-preserved
loop-value-preserved g c =
    let given = map seen c.loop-value.yielded in
    let one : Bor g.row.T.Denot × ℕ = (c.in-Some.value, c.in-Some.count) in
    let more = map-append seen c.loop-value.yielded (one ∷ []) in
    record {
      parts = ap (λ l. l ++ c.next.new.self) more ∙ append_assoc given (seen one ∷ []) c.next.new.self ∙ ap (λ l. given ++ l) (sym c.in-Some.ensures.steps) ∙ c.loop-value.invariant.parts;
      heap = c.in_ok-offer.ensures.heap;
      first = subst (λ l. IsFirstOf (comes_first g.T.Ord.cmp) c.args.k l (map counted_pair (heap_items c.offer.new.heap))) (sym more) (c.in_ok-offer.ensures.first given c.loop-value.invariant.first);
    }

-- the pairs that were offered are those that the walk gave
pub returns-clause-first : goal.returns-clause-first
returns-clause-first g c =
    let given = map seen c.loop-value.yielded in
    let whole : given ≡ c.set_iter-value-items.result = sym (append-nil given) ∙ ap (λ l. given ++ l) (sym c.in-None.ensures.steps.0) ∙ c.loop-value.invariant.parts ∙ c.into_iter-value-iterator.ensures.into_iter_gives in
    (given, subst (λ l. IsSetWalkOf g.T.PartialEq.eq c.args.bag.now l) (sym whole) c.set_iter-value-items.ensures, c.loop-value.invariant.first)
