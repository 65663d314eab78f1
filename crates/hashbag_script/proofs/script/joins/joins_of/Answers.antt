use Rattle.std.proofs.Common.{◌≡◌, List, map, refl, sym, ap, subst, ◌∙◌}
use Rattle.std.specs.Borrow.{Bor}
use Rattle.std.proofs.lemmas.Iterator.{items_from_drains}
use Rattle.std.proofs.lemmas.Iterator.Consumers.{YieldsList-from_first}
use Rattle.hashbag_core.specs.Joins.{IsOuterJoin, IsDifference, IsNotIn, IsSignedDifference}
use Rattle.hashbag_core.proofs.OuterJoinLemmas.{difference_from_outer, not_in_from_outer, signed_from_outer, excesses_of_join-map, lacking_of_join-map, subtracted-map}
use Rattle.hashbag_script.proofs.script.joins.joins_of.Goals as goal

pub returns-clause-outer : goal.returns-clause-outer
returns-clause-outer g c = λ X Y in_a in_b.
    let got = c.in_ok-outer.ensures.ran in
    let all : map (λ j. (j.0.now, j.1, j.2)) got.0 ≡ c.outer_join.result = items_from_drains got.0 got.1 (YieldsList-from_first (λ j. (j.0.now, j.1, j.2)) (λ s. s) c.outer_join.result refl) in
    subst (λ (l : List _). IsOuterJoin g.T.PartialEq.eq X Y l) (sym (ap (λ (l : List _). map (λ j. (j.0.now, j.1, j.2)) l) got.2.0 ∙ all)) (c.outer_join.ensures X Y in_a in_b)

pub returns-clause-difference : goal.returns-clause-difference
returns-clause-difference g c = λ X Y in_a in_b.
    let is = ap (λ (l : List _). map (λ e. (e.0.now, e.1)) l) c.in_ok-difference.ensures ∙ excesses_of_join-map (λ (r : Bor g.row.T.Denot). r.now) c.in_ok-outer.outer.items in
    subst (λ (l : List _). IsDifference g.T.PartialEq.eq X Y l) (sym is) (difference_from_outer g.met.T.Eq.laws X Y _ (returns-clause-outer g c X Y in_a in_b))

pub returns-clause-signed : goal.returns-clause-signed
returns-clause-signed g c = λ X Y in_a in_b.
    let is = ap (λ (l : List _). map (λ e. (e.0.now, e.1)) l) c.in_ok-signed.ensures ∙ subtracted-map (λ (r : Bor g.row.T.Denot). r.now) c.in_ok-outer.outer.items in
    subst (λ (l : List _). IsSignedDifference g.T.PartialEq.eq X Y l) (sym is) (signed_from_outer g.met.T.Eq.laws X Y _ (returns-clause-outer g c X Y in_a in_b))

pub returns-clause-not_in : goal.returns-clause-not_in
returns-clause-not_in g c = λ X Y in_a in_b.
    let is = ap (λ (l : List _). map (λ e. (e.0.now, e.1)) l) c.in_ok-not_in.ensures ∙ lacking_of_join-map (λ (r : Bor g.row.T.Denot). r.now) c.in_ok-outer.outer.items in
    subst (λ (l : List _). IsNotIn g.T.PartialEq.eq X Y l) (sym is) (not_in_from_outer g.met.T.Eq.laws X Y _ (returns-clause-outer g c X Y in_a in_b))
