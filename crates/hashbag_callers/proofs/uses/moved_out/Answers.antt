use Rattle.std.proofs.Common.{◌≡◌, List, ℕ, length, refl, sym, ap, ◌∙◌, subst}
use Rattle.std.proofs.lemmas.Iterator.{items_from_collect}
use Rattle.std.proofs.lemmas.Iterator.Consumers.{YieldsList-from_first}
use Rattle.std.proofs.lemmas.Result.{IfOk-weaker}
use Rattle.hashbag.specs.Drain.{drain_rest}
use Rattle.hashbag.specs.Walks.{IsSetWalk}
use Rattle.hashbag_callers.proofs.uses.moved_out.Goals as goal

-- Each answer goes from what the drain gives to the list that has it.
pub returns-clause-list : goal.returns-clause-list
returns-clause-list g c =
    IfOk-weaker c.collect.result (λ list. list.items ≡ drain_rest c.drain.result) _
    (λ list same X means. subst (λ (W : List (g.row.T.Denot × ℕ)). IsSetWalk g.T.PartialEq.eq X W) (sym same) (c.drain.ensures.set_walk.walk X means))
    (items_from_collect c.collect.result c.collect.ensures.ran (YieldsList-from_first (λ x. x) drain_rest (drain_rest c.drain.result) refl))

pub returns-clause-distinct : goal.returns-clause-distinct
returns-clause-distinct g c =
    IfOk-weaker c.collect.result (λ list. list.items ≡ drain_rest c.drain.result) _
    (λ list same. ap (λ (W : List (g.row.T.Denot × ℕ)). length W) same ∙ c.drain.ensures.set_walk.distinct)
    (items_from_collect c.collect.result c.collect.ensures.ran (YieldsList-from_first (λ x. x) drain_rest (drain_rest c.drain.result) refl))
