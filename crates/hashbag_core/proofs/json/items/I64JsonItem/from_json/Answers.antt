use Rattle.std.proofs.Common.{◌≡◌, Some, refl, sym, subst, rules}
use Rattle.std.proofs.lemmas.Int.{to_z-of_z}
use mir.Syntax.{w64}
use mir.Val.{of_z, to_z}
use Rattle.serde_json.specs.View.{view}
use Rattle.hashbag_core.specs.JsonItems.{IsI64, i64_item}
use Rattle.hashbag_core.specs.JsonItemLaws.{i64_found, i64_none, i64_has}
use Rattle.hashbag_core.proofs.json.items.I64JsonItem.from_json.Goals as goal

pub returns-in-Some-clause-item : goal.returns-in-Some-clause-item
returns-in-Some-clause-item c =
    let fits : IsI64 c.in-Some.x = search rules in
    let same : to_z w64 (of_z w64 c.in-Some.x) ≡ c.in-Some.x = to_z-of_z w64 c.in-Some.x (search rules) in
    subst (λ z. IsI64 z × (i64_item (view c.args.v.now) ≡ Some z)) (sym same) (fits, i64_found (view c.args.v.now) c.in-Some.x c.in-Some.ensures fits)

pub returns-in-Some-clause-not_an_item : goal.returns-in-Some-clause-not_an_item
returns-in-Some-clause-not_an_item c =
    let fits : IsI64 c.in-Some.x = search rules in
    let there = i64_has (view c.args.v.now) c.in-Some.x (i64_found (view c.args.v.now) c.in-Some.x c.in-Some.ensures fits) in
    (λ e. absurd (cc), λ e. absurd (cc))

pub returns-in-None-clause-not_an_item : goal.returns-in-None-clause-not_an_item
returns-in-None-clause-not_an_item c = (λ e. i64_none (view c.args.v.now) c.in-None.ensures, λ e. refl)
