use Rattle.std.proofs.Common.{◌≡◌, ◌+◌, ℕ, List, [], sym, ◌∙◌, ap, arith, rules}
use Rattle.std.proofs.lemmas.Iterator.Adapters.{YieldsList-from_vec}
use Rattle.std.proofs.lemmas.List.{map-id}
use Rattle.hashbag_core.specs.EqualityLaws.{count_append}
use Rattle.hashbag_core.specs.Occurrences.{count}
use Rattle.hashbag_core.proofs.CallerLemmas.{count_extended, count_once, items_that_came}
use Rattle.hashbag_core.proofs.InsertLemmas.{all_added}
use Rattle.hashbag_ops.proofs.laws.count_in_parts.Goals as goal

-- either bag has the items of its part
pub returns : goal.returns
returns g c =
    let eq = g.T.PartialEq.eq in
    let laws = g.met.T.Eq.laws in
    let X = c.args.first.items in
    let Y = c.args.second.items in
    let A = c.in_ok-whole.whole in
    let B = c.in_ok-part.part in
    let a = c.in_ok-whole.ensures.all in
    let b = c.in_ok-part.ensures.all in
    let came_first = sym (map-id a.items) ∙ items_that_came a.items a.yielded (YieldsList-from_vec {s = c.into_iter.result} X (search rules) (search rules)) in
    let came_second = sym (map-id b.items) ∙ items_that_came b.items b.yielded (YieldsList-from_vec {s = c.into_iter-2.result} Y (search rules) (search rules)) in
    λ v.
    let first : count eq v A.items ≡ 0 + count eq v X =
    count_extended laws v [] a.pairs A (all_added laws a).means ∙ ap (λ (n : ℕ). 0 + n) (count_once laws v a.items a.pairs a.as_pairs ∙ ap (λ (l : List g.row.T.Denot). count eq v l) came_first) in
    let second : count eq v B.items ≡ 0 + count eq v Y =
    count_extended laws v [] b.pairs B (all_added laws b).means ∙ ap (λ (n : ℕ). 0 + n) (count_once laws v b.items b.pairs b.as_pairs ∙ ap (λ (l : List g.row.T.Denot). count eq v l) came_second) in
    let sum : count eq v c.merge.new.into.items ≡ count eq v A.items + count eq v B.items = c.in_ok-merge.ensures.counts v in
    let parts = count_append laws v X Y in
    omega (arith, first, second, sum, parts)
