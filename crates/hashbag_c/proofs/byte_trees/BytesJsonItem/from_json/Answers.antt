use Rattle.std.proofs.Common.{◌≡◌, ◌∙◌, ℕ, List, Some, Ok, true, ap, rules, sym, refl, subst}
use Rattle.serde_json.specs.View.{view, items_view}
use Rattle.hashbag_c.specs.ByteTrees.{are_bytes, bytes_in}
use Rattle.hashbag_c.specs.ByteTreeLaws.{bytes_have}
use Rattle.hashbag_c.proofs.ByteTreeLemmas.{is_an_item, ok_apart, read_is_bytes, text_item, list_item}
use Rattle.hashbag_c.proofs.byte_trees.BytesJsonItem.from_json.Goals as goal

pub returns-in_err-of-clause-not_an_item : goal.returns-in_err-of-clause-not_an_item
returns-in_err-of-clause-not_an_item c =
    let d = view c.args.v.now in let xs = c.as_bytes.result.now in
    let there = bytes_have d xs (text_item d c.in-Some.text.now xs xs c.in-Some.ensures c.as_bytes.ensures.value c.below_256-bytes.ensures.bytes refl) in
    is_an_item c.from_residual.result _ there (λ e. search rules)

pub returns-in-Some-clause-item : goal.returns-in-Some-clause-item
returns-in-Some-clause-item c =
    let d = view c.args.v.now in let xs = c.as_bytes.result.now in
    let copied = c.in_ok-of.ensures ∙ c.below_256-bytes.ensures.same in (
      subst (λ (l : List ℕ). are_bytes l ≡ true) (sym copied) c.below_256-bytes.ensures.bytes,
      text_item d c.in-Some.text.now xs _ c.in-Some.ensures c.as_bytes.ensures.value c.below_256-bytes.ensures.bytes copied,
    )

pub returns-in-Some-clause-not_an_item : goal.returns-in-Some-clause-not_an_item
returns-in-Some-clause-not_an_item c =
    let d = view c.args.v.now in let xs = c.as_bytes.result.now in
    let there = bytes_have d xs (text_item d c.in-Some.text.now xs xs c.in-Some.ensures c.as_bytes.ensures.value c.below_256-bytes.ensures.bytes refl) in
    is_an_item (Ok c.in_ok-of.field-0) _ there (ok_apart c.in_ok-of.field-0)

pub returns-in-Some-2-clause-item : goal.returns-in-Some-2-clause-item
returns-in-Some-2-clause-item c =
    let d = view c.args.v.now in let x = c.of_vec.result in
    let found : Some x ≡ bytes_in (items_view c.in-Some-as_array.list.now.items) = ap Some c.of_vec.ensures ∙ (rw c.in-Some-2.is at c.in_ok-bytes.ensures) in
    let read = list_item d (items_view c.in-Some-as_array.list.now.items) x c.in-Some-as_array.ensures found in
    (read_is_bytes d x read, read)
