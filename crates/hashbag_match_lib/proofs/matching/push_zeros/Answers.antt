use Rattle.std.proofs.Common.{List, map, subst}
use Rattle.std.proofs.lemmas.List.Sorted.{IsPermutation-refl}
use Rattle.hashbag_core.specs.Joins.{IsOuterJoin}
use Rattle.hashbag_match_lib.proofs.RowLemmas.{lent_join, whole_join}
use Rattle.hashbag_match_lib.proofs.matching.push_zeros.Goals as goal

pub returns : goal.returns
returns g c =
    let X = c.args.ordered.now.zeros.items in
    let Y = c.args.delivered.now.zeros.items in
    let given = c.loop-article.yielded in
    let whole = whole_join given _ _ c.outer_join-article-items.result c.loop-article.invariant.parts c.in-None.ensures.steps.0 c.into_iter-article-iterator.ensures.into_iter_gives in (
      map lent_join given,
      subst (λ (l : List _). IsOuterJoin g.T.PartialEq.eq X Y l) whole (c.outer_join-article-items.ensures X Y (IsPermutation-refl X) (IsPermutation-refl Y)),
      c.loop-article.invariant.rows,
    )
