use Rattle.std.proofs.Common.{◌≡◌, ◌+◌, ℕ, List, [], length, sym, ◌∙◌, ap, arith, rules}
use Rattle.std.specs.Vec.Iter.{into_iter_steps}
use Rattle.std.proofs.lemmas.Iterator.Adapters.{YieldsList-from_vec}
use Rattle.std.proofs.lemmas.List.{map-id}
use Rattle.std.proofs.lemmas.Result.{IfOk-weaker}
use Rattle.hashbag.specs.Extends.{Once}
use Rattle.hashbag.specs.Inserts.{InsertsAll, empty_bag}
use Rattle.hashbag.specs.Occurrences.{count}
use Rattle.hashbag.proofs.CallerLemmas.{count_extended, count_once, items_that_came}
use Rattle.hashbag.proofs.InsertLemmas.{all_added, longer_by_items}
use Rattle.hashbag_callers.proofs.words.count_words.Goals as goal

-- the items that came are the words
pub returns-clause-counts : goal.returns-clause-counts
returns-clause-counts g c =
    let eq = g.T.PartialEq.eq in
    IfOk-weaker c.from_iter.result (λ bag. InsertsAll eq into_iter_steps Once c.into_iter.result (empty_bag bag.hasher) bag) (λ bag. (v : g.row.T.Denot) → count eq v bag.items ≡ count eq v c.args.words.items)
    (λ bag h v.
    let came = sym (map-id h.items) ∙ items_that_came h.items h.yielded (YieldsList-from_vec {s = c.into_iter.result} c.args.words.items (search rules) (search rules)) in
    let whole = count_extended g.met.T.Eq.laws v [] h.pairs bag (all_added g.met.T.Eq.laws h).means in
    let each = count_once g.met.T.Eq.laws v h.items h.pairs h.as_pairs ∙ ap (λ (l : List g.row.T.Denot). count eq v l) came in
    omega arith)
    c.from_iter.ensures.all

pub returns-clause-len : goal.returns-clause-len
returns-clause-len g c =
    let eq = g.T.PartialEq.eq in
    IfOk-weaker c.from_iter.result (λ bag. InsertsAll eq into_iter_steps Once c.into_iter.result (empty_bag bag.hasher) bag) (λ bag. length bag.items ≡ length c.args.words.items)
    (λ bag h.
    let long : length bag.items ≡ 0 + length h.items = longer_by_items h (λ x p is. ap (λ (q : g.row.T.Denot × ℕ). q.1) is) in
    let came = ap (λ (l : List g.row.T.Denot). length l) (sym (map-id h.items) ∙ items_that_came h.items h.yielded (YieldsList-from_vec {s = c.into_iter.result} c.args.words.items (search rules) (search rules))) in
    omega (arith, long, came))
    c.from_iter.ensures.all
