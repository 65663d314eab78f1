use Rattle.std.proofs.Common.{refl, rules, tests}
use Rattle.std.proofs.lemmas.Iterator.Consumers.{YieldsList-from_first}
use Rattle.std.proofs.lemmas.Iterator.Search.{find_from_yields_List}
use Rattle.std.proofs.lemmas.List.Sorted.{IsPermutation-refl}
use Rattle.hashbag.proofs.ExcessLemmas.{excess_law}
use Rattle.hashbag_callers.proofs.join_uses.excess_of.Goals as goal

pub returns-in-Some : goal.returns-in-Some
returns-in-Some g c =
    let v = c.args.value.now in
    let found = find_from_yields_List (λ e. g.T.PartialEq.eq e.0 v) _ _ _ c.find.ensures.ran (YieldsList-from_first (λ e. (e.0.now, e.1)) (λ s. s) c.difference.result refl) (λ x b q k. search (rules, tests)) in
    let difference = c.difference.ensures _ _ (IsPermutation-refl _) (IsPermutation-refl _) in
    rw c.in-Some.is at (excess_law g.met.T.Eq.laws v _ _ c.difference.result difference c.find.result found)

pub returns-in-None : goal.returns-in-None
returns-in-None g c =
    let v = c.args.value.now in
    let found = find_from_yields_List (λ e. g.T.PartialEq.eq e.0 v) _ _ _ c.find.ensures.ran (YieldsList-from_first (λ e. (e.0.now, e.1)) (λ s. s) c.difference.result refl) (λ x b q k. search (rules, tests)) in
    let difference = c.difference.ensures _ _ (IsPermutation-refl _) (IsPermutation-refl _) in
    rw c.in-None.is at (excess_law g.met.T.Eq.laws v _ _ c.difference.result difference c.find.result found)
