use Rattle.std.proofs.Common.{◌≡◌, ℕ, List, true, sym, ◌∙◌}
use Rattle.std.proofs.lemmas.Result.{IfOk-weaker}
use Rattle.serde_json.specs.View.{view}
use Rattle.hashbag.specs.Equality.{same_counts}
use Rattle.hashbag.specs.EqualityLaws.{same_counts-Decides}
use Rattle.hashbag.specs.Inserts.{IsMadeOf}
use Rattle.hashbag.specs.JsonFaults.{limit_of}
use Rattle.hashbag.specs.JsonTrees.{IsReading}
use Rattle.hashbag.proofs.InsertLemmas.{made_means}
use Rattle.hashbag.proofs.OccurrenceLemmas.{count_rearranged}
use Rattle.hashbag_callers.proofs.json_uses.read_again.Goals as goal

pub returns-in-Ok-clause-equal : goal.returns-in-Ok-clause-equal
returns-in-Ok-clause-equal g c =
    IfOk-weaker c.from_value.result (λ again. (pairs : List (g.row.T.Denot × ℕ)) × IsReading g.T.JsonItem.reads (view c.in-Ok.tree) pairs × IsMadeOf g.T.PartialEq.eq pairs again) (λ again. same_counts g.T.PartialEq.eq again.items c.args.bag.now.items ≡ true)
    (λ again h. (same_counts-Decides g.met.T.Eq.laws again.items c.args.bag.now.items).1 (λ v. sym (count_rearranged g.met.T.Eq.laws v _ _ (made_means g.met.T.Eq.laws h.0 again h.2)) ∙ c.in-Ok.ensures.counts h.0 h.1 v)) c.from_value.ensures.read

pub returns-in-Ok-clause-limit : goal.returns-in-Ok-clause-limit
returns-in-Ok-clause-limit g c =
    IfOk-weaker c.from_value.result (λ again. again.most ≡ limit_of (view c.in-Ok.tree)) (λ again. again.most ≡ c.args.bag.now.most) (λ again same. same ∙ c.in-Ok.ensures.limit) c.from_value.ensures.limit
