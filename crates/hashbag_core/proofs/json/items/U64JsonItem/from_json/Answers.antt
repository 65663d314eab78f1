use Rattle.std.proofs.Common.{refl, arith}
use Rattle.serde_json.specs.View.{view}
use Rattle.hashbag_core.specs.JsonItems.{IsU64}
use Rattle.hashbag_core.specs.JsonItemLaws.{u64_found, u64_none, u64_has}
use Rattle.hashbag_core.proofs.json.items.U64JsonItem.from_json.Goals as goal

pub returns-in-Some-clause-item : goal.returns-in-Some-clause-item
returns-in-Some-clause-item c =
    let fits : IsU64 c.in-Some.x = omega arith in
    (fits, u64_found (view c.args.v.now) c.in-Some.x c.in-Some.ensures fits)

pub returns-in-Some-clause-not_an_item : goal.returns-in-Some-clause-not_an_item
returns-in-Some-clause-not_an_item c =
    let fits : IsU64 c.in-Some.x = omega arith in
    let there = u64_has (view c.args.v.now) c.in-Some.x (u64_found (view c.args.v.now) c.in-Some.x c.in-Some.ensures fits) in
    (λ e. absurd (cc), λ e. absurd (cc))

pub returns-in-None-clause-not_an_item : goal.returns-in-None-clause-not_an_item
returns-in-None-clause-not_an_item c = (λ e. u64_none (view c.args.v.now) c.in-None.ensures, λ e. refl)
