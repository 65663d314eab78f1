use Rattle.std.proofs.Common.{◌≡◌, true, map, Some, option_and_then, sym, ◌∙◌, ap, rules}
use Rattle.serde_json.specs.Find.{get}
use Rattle.serde_json.specs.View.{view, items_view, members_view}
use Rattle.hashbag_core.specs.JsonFaults.{list_of, array_of, has_no_other, limit_name, pairs_name}
use Rattle.hashbag_core.specs.JsonItems.{u64_item}
use Rattle.hashbag_core.proofs.JsonLimitLemmas.{array_opened, object_opened}
use Rattle.hashbag_core.proofs.JsonReadLemmas.{list_of-items_of}
use Rattle.hashbag_core.proofs.json.limit_and_pairs.Goals as goal

pub returns-in-Some : goal.returns-in-Some
returns-in-Some c = sym (array_opened (view c.args.tree.now) c.in-Some.pairs.now.items c.in-Some.ensures)

pub returns : goal.returns
returns c =
    let pairs : option_and_then array_of (get pairs_name (view c.args.tree.now)) ≡ Some (list_of (items_view c.in-Some-and_then.pairs.now.items)) = search rules in
    let trees : Some (list_of (items_view c.in-Some-and_then.pairs.now.items)) ≡ Some (map view c.in-Some-and_then.pairs.now.items) = ap (λ l. Some l) (list_of-items_of (map view c.in-Some-and_then.pairs.now.items)) in
    let limit : option_and_then u64_item (get limit_name (view c.args.tree.now)) ≡ Some c.in-Some-and_then-2.limit = search rules in
    let names : has_no_other (members_view c.in-Some-as_object.members.now.entries) ≡ true = search rules in
    sym (object_opened (view c.args.tree.now) _ true _ _ c.in-Some-as_object.ensures names (pairs ∙ trees) limit)
