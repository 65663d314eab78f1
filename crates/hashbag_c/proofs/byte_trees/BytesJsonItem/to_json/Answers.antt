use Rattle.std.proofs.Common.{◌≡◌, ℕ, List, true, ◌∙◌, subst}
use Rattle.hashbag_c.specs.ByteTrees.{are_bytes}
use Rattle.hashbag_c.proofs.ByteTreeLemmas.{as_text, as_list}
use Rattle.hashbag_c.proofs.byte_trees.BytesJsonItem.to_json.Goals as goal

pub returns-in_err-try_from_str-in-Ok-clause-item : goal.returns-in_err-try_from_str-in-Ok-clause-item
returns-in_err-try_from_str-in-Ok-clause-item c = subst (λ (l : List ℕ). are_bytes l ≡ true) c.as_slice.ensures c.below_256-bytes.ensures.bytes

pub returns-in_err-list_value-in-Err-clause-item : goal.returns-in_err-list_value-in-Err-clause-item
returns-in_err-list_value-in-Err-clause-item c = subst (λ (l : List ℕ). are_bytes l ≡ true) c.as_slice.ensures c.below_256-bytes.ensures.bytes

pub returns-in_ok-try_from_str-in-Ok-clause-item : goal.returns-in_ok-try_from_str-in-Ok-clause-item
returns-in_ok-try_from_str-in-Ok-clause-item c = subst (λ (l : List ℕ). are_bytes l ≡ true) c.as_slice.ensures c.below_256-bytes.ensures.bytes

pub returns-in_ok-list_value-in-Err-clause-item : goal.returns-in_ok-list_value-in-Err-clause-item
returns-in_ok-list_value-in-Err-clause-item c = subst (λ (l : List ℕ). are_bytes l ≡ true) c.as_slice.ensures c.below_256-bytes.ensures.bytes

pub returns-in_ok-try_from_str-in-Ok-clause-tree : goal.returns-in_ok-try_from_str-in-Ok-clause-tree
returns-in_ok-try_from_str-in-Ok-clause-tree c =
    as_text _ _ c.below_256-bytes.result.now c.args.self.now c.in_ok-try_from_str-in-Ok.ensures c.in-Ok.ensures.cases.0 c.in-Ok.ensures.cases.1 (c.below_256-bytes.ensures.same ∙ c.as_slice.ensures)

pub returns-in_ok-list_value-in-Err-clause-tree : goal.returns-in_ok-list_value-in-Err-clause-tree
returns-in_ok-list_value-in-Err-clause-tree c =
    as_list _ c.below_256-bytes.result.now c.args.self.now c.in_ok-list_value-in-Err.ensures c.in-Err.ensures.cases.0 (c.below_256-bytes.ensures.same ∙ c.as_slice.ensures)
