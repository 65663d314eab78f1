use Rattle.std.proofs.Common.{◌≡◌, List, [], length, ◌∙◌, ap, inl, refl, arith, rules}
use Rattle.std.proofs.lemmas.Iterator.Consumers.{YieldsList-from_first, count_from_yields_List}
use Rattle.std.proofs.lemmas.List.Sorted.{IsPermutation-refl}
use Rattle.hashbag_core.specs.JoinsLeft.{lacking}
use Rattle.hashbag_core.proofs.JoinLemmas.{not_in_from_walk}
use Rattle.hashbag_ops.proofs.Lacking.{as_long, lacking_all, no_more}
use Rattle.hashbag_ops.proofs.combine.lacked_by.Goals as goal

-- an empty bag lacks what a walk gives
pub returns-then-is_empty : goal.returns-then-is_empty
returns-then-is_empty g c = λ M is.
    let eq = g.T.PartialEq.eq in
    let laws = g.met.T.Eq.laws in
    let X = c.args.from.now.items in
    let Y = c.args.bag.now.items in
    let W = c.set_iter.result in
    let none : Y ≡ [] = search rules in
    let all : length (lacking eq Y W) ≡ length W = ap (λ (l : List g.row.T.Denot). length (lacking eq l W)) none ∙ lacking_all eq W in
    let long = as_long laws X Y (lacking eq Y W) M (not_in_from_walk laws X Y W (c.set_iter.ensures.walk X (IsPermutation-refl X))) is in
    let value = c.len.ensures.value in
    omega (arith, value, all, long)

pub count-requires-clause-fits : goal.count-requires-clause-fits
count-requires-clause-fits g c =
    let X = c.args.from.now.items in
    let Y = c.args.bag.now.items in
    let few = no_more g.met.T.Eq.laws X Y c.not_in.result (c.not_in.ensures X Y (IsPermutation-refl X) (IsPermutation-refl Y)) in
    let within = c.limit-limit.ensures.within in
    inl (omega (arith, few, within))

pub returns : goal.returns
returns g c = λ M is.
    let X = c.args.from.now.items in
    let Y = c.args.bag.now.items in
    let E = c.not_in.result in
    count_from_yields_List E c.count.result c.count.ensures.ran (YieldsList-from_first (λ e. (e.0.now, e.1)) (λ s. s) E refl)
    ∙ as_long g.met.T.Eq.laws X Y E M (c.not_in.ensures X Y (IsPermutation-refl X) (IsPermutation-refl Y)) is
