use Rattle.std.proofs.Common.{◌≡◌, min, arith}
use Rattle.std.proofs.lemmas.Int.{clamps}
use Rattle.std.proofs.lemmas.Result.{IfOk-weaker}
use Rattle.serde_json.specs.View.{view}
use Rattle.hashbag_core.specs.JsonFaults.{limit_of}
use Rattle.hashbag_core.specs.Occurrences.{greatest_total}
use Rattle.hashbag_core.proofs.JsonLimitLemmas.{limit_of_fits}
use Rattle.hashbag_core.proofs.bag.HashBag.from_value.Goals as goal

pub returns-clause-limit : goal.returns-clause-limit
returns-clause-limit g c =
    let fits = limit_of_fits (view c.args.tree.now) in
    IfOk-weaker c.from_value_within.result (λ bag. bag.most ≡ min greatest_total (limit_of (view c.args.tree.now))) (λ bag. bag.most ≡ limit_of (view c.args.tree.now)) (λ bag same. omega (arith, clamps)) c.from_value_within.ensures.limit
