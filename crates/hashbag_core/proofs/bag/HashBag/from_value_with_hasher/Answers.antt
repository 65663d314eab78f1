use Rattle.std.proofs.Common.{◌≡◌, ℕ, List, map, min, None, sym, ◌∙◌, ap}
use Rattle.std.specs.List.{AllZip}
use Rattle.std.proofs.lemmas.Result.{IfOk-weaker, IfErr-weaker}
use Rattle.serde_json.specs.View.{view}
use Rattle.hashbag_core.specs.Inserts.{IsMadeOf}
use Rattle.hashbag_core.specs.JsonFaults.{first_fault, opened_fault, fault, limit_of, limit_opened}
use Rattle.hashbag_core.specs.JsonTrees.{IsPair, IsReading}
use Rattle.hashbag_core.proofs.JsonLimitLemmas.{not_memory}
use Rattle.hashbag_core.proofs.bag.HashBag.from_value_with_hasher.Goals as goal

pub returns-in-Ok-clause-no_fault : goal.returns-in-Ok-clause-no_fault
returns-in-Ok-clause-no_fault g c =
    IfOk-weaker c.from_pairs.result (λ _. first_fault (min c.args.most c.in-Ok.limit) g.T.JsonItem.has_item 0 0 (map view c.in-Ok.pairs.now.items) ≡ None) (λ _. fault c.args.most g.T.JsonItem.has_item (view c.args.tree.now) ≡ None)
    (λ _ good. ap (opened_fault c.args.most g.T.JsonItem.has_item) (sym c.in-Ok.ensures) ∙ good) (rw c.min.ensures at c.from_pairs.ensures.no_fault)

pub returns-in-Ok-clause-read : goal.returns-in-Ok-clause-read
returns-in-Ok-clause-read g c =
    IfOk-weaker c.from_pairs.result (λ bag. (pairs : List (g.row.T.Denot × ℕ)) × AllZip (IsPair g.T.JsonItem.reads) (map view c.in-Ok.pairs.now.items) pairs × IsMadeOf g.T.PartialEq.eq pairs bag)
    (λ bag. (pairs : List (g.row.T.Denot × ℕ)) × IsReading g.T.JsonItem.reads (view c.args.tree.now) pairs × IsMadeOf g.T.PartialEq.eq pairs bag)
    (λ bag h. (h.0, record { limit = c.in-Ok.limit; trees = map view c.in-Ok.pairs.now.items; inside = sym c.in-Ok.ensures; each = h.1 }, h.2)) c.from_pairs.ensures.read

pub returns-in-Ok-clause-limit : goal.returns-in-Ok-clause-limit
returns-in-Ok-clause-limit g c =
    IfOk-weaker c.from_pairs.result (λ bag. bag.most ≡ c.min.result) (λ bag. bag.most ≡ min c.args.most (limit_of (view c.args.tree.now)))
    (λ bag same. same ∙ c.min.ensures ∙ ap (λ n. min c.args.most n) (ap limit_opened c.in-Ok.ensures)) c.from_pairs.ensures.limit

pub returns-in-Ok-clause-fault : goal.returns-in-Ok-clause-fault
returns-in-Ok-clause-fault g c =
    IfErr-weaker c.from_pairs.result _ _ (λ e found other. ap (opened_fault c.args.most g.T.JsonItem.has_item) (sym c.in-Ok.ensures) ∙ (rw c.min.ensures at (found other))) c.from_pairs.ensures.fault

pub returns-in-Ok-clause-may_run_out : goal.returns-in-Ok-clause-may_run_out
returns-in-Ok-clause-may_run_out g c =
    IfErr-weaker c.from_pairs.result _ _ (λ e ends memory. record { limit = c.in-Ok.limit; trees = map view c.in-Ok.pairs.now.items; inside = sym c.in-Ok.ensures; among = rw c.min.ensures at (ends memory) }) c.from_pairs.ensures.may_run_out

pub returns-in-Err-clause-fault : goal.returns-in-Err-clause-fault
returns-in-Err-clause-fault g c = λ other. ap (opened_fault c.args.most g.T.JsonItem.has_item) (sym c.in-Err.ensures)

pub returns-in-Err-clause-may_run_out : goal.returns-in-Err-clause-may_run_out
returns-in-Err-clause-may_run_out g c = λ memory. absurd (not_memory (view c.args.tree.now) (rw memory at c.in-Err.ensures))
