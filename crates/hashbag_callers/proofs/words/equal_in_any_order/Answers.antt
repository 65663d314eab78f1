use Rattle.std.proofs.Common.{◌≡◌, ℕ, List, [], sym, ◌∙◌, subst, rules}
use Rattle.std.specs.List.Sorted.{IsPermutation}
use Rattle.std.proofs.lemmas.Iterator.Adapters.{YieldsList-from_vec}
use Rattle.std.proofs.lemmas.List.{map-id}
use Rattle.hashbag.proofs.CallerLemmas.{equal_from_insertions, items_that_came, pairs_as_they_are}
use Rattle.hashbag.proofs.InsertLemmas.{all_added}
use Rattle.hashbag_callers.proofs.words.equal_in_any_order.Goals as goal

-- the pairs that went in are those of the two lists
pub returns : goal.returns
returns g c =
    let a = c.in_ok-first.ensures.all in
    let b = c.in_ok-second.ensures.all in
    let first : c.args.pairs.items ≡ a.pairs =
    sym (pairs_as_they_are a.items a.pairs a.as_pairs ∙ sym (map-id a.items) ∙ items_that_came a.items a.yielded (YieldsList-from_vec {s = c.into_iter.result} c.args.pairs.items (search rules) (search rules))) in
    let second : c.args.others.items ≡ b.pairs =
    sym (pairs_as_they_are b.items b.pairs b.as_pairs ∙ sym (map-id b.items) ∙ items_that_came b.items b.yielded (YieldsList-from_vec {s = c.into_iter-2.result} c.args.others.items (search rules) (search rules))) in
    let order : IsPermutation a.pairs b.pairs =
    subst (λ (l : List (g.row.T.Denot × ℕ)). IsPermutation a.pairs l) second (subst (λ (l : List (g.row.T.Denot × ℕ)). IsPermutation l c.args.others.items) first c.requires) in
    c.eq.ensures ∙ equal_from_insertions g.met.T.Eq.laws c.in_ok-first.first c.in_ok-second.second [] a.pairs b.pairs order (all_added g.met.T.Eq.laws a).means (all_added g.met.T.Eq.laws b).means
