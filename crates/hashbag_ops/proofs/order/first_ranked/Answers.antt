use Rattle.std.proofs.Common.{◌≡◌, [], ◌++◌, map, sym, ◌∙◌, ap, heap_items}
use Rattle.std.specs.Vec.Iter.{into_iter_items}
use Rattle.std.proofs.lemmas.List.{append-nil}
use Rattle.std.proofs.lemmas.List.Sorted.{IsPermutation-map}
use Rattle.hashbag_core.proofs.JsonWriteLemmas.{set_walk_reordered, once_in_walk}
use Rattle.hashbag_ops.specs.Order.{counted_pair, comes_first}
use Rattle.hashbag_ops.proofs.MostCommonFirst.{empty, first_of_all}
use Rattle.hashbag_ops.proofs.Ranked.{rank_weak, rises_from_sorted, ranked_from_rising}
use Rattle.hashbag_ops.proofs.order.first_ranked.Goals as goal

-- the heap sorted is the first k of the whole list sorted
pub returns-clause-first : goal.returns-clause-first
returns-clause-first g c =
    let at = c.loop-count in
    let by = comes_first g.T.Ord.cmp in
    let sorted = c.into_sorted_vec-count-items.result.items in
    let heap = c.in_ok-heap.ensures in
    let total = g.met.T.Ord.total in
    let same = IsPermutation-map counted_pair (heap_items c.in_ok-heap.heap) sorted c.into_sorted_vec-count-items.ensures.permutation in
    let up = rises_from_sorted counted_pair by (rank_weak total counted_pair) sorted (c.into_sorted_vec-count-items.ensures.sorted heap.heap) in
    let whole = first_of_all (rank_weak total (λ p. p)) c.args.k heap.first.0 (map counted_pair (heap_items c.in_ok-heap.heap)) (map counted_pair sorted) heap.first.2 same up in
    let walk = set_walk_reordered g.met.T.Eq.laws c.args.bag.now heap.first.0 whole.0 whole.1 heap.first.1 in
    let ranked = ranked_from_rising g.met.T.Eq.laws total g.met.T.Ord.matches_eq whole.0 whole.2 (once_in_walk g.met.T.Eq.laws c.args.bag.now whole.0 walk) in
    let none : into_iter_items at.count-iterator ≡ [] = empty (into_iter_items at.count-iterator) (sym at.count-iterator.rest.ok.0 ∙ c.in-None.ensures.steps.0) in
    let given : at.yielded ≡ sorted = sym (append-nil at.yielded) ∙ ap (λ l. at.yielded ++ l) (sym none) ∙ at.invariant.parts ∙ c.into_iter-count-iterator.ensures.into_iter_gives.0 in
    (whole.0, walk, ranked, at.invariant.pairs ∙ ap (map counted_pair) given ∙ whole.3)
