use Rattle.hashbag_run_lib.proofs.OutputLemmas.{in_turn}
use Rattle.hashbag_run_lib.proofs.answers.output_of.Goals as goal

pub returns : goal.returns
returns c =
    let are = c.in_ok-answers.ensures.answers in
    let joins = c.in_ok-print_joins.ensures in
    record {
      outer = joins.outer;
      difference = joins.difference;
      signed = joins.signed;
      not_in = joins.not_in;
      tree_a = _;
      tree_b = _;
      is_outer = record { listed = _; is = are.outer; rises = joins.outer_rises };
      is_difference = record { listed = _; is = are.difference; rises = joins.difference_rises };
      is_signed = record { listed = _; is = are.signed; rises = joins.signed_rises };
      is_not_in = record { listed = _; is = are.not_in; rises = joins.not_in_rises };
      is_tree_a = are.tree_a;
      is_tree_b = are.tree_b;
      is = in_turn _ _ _ _ _ _ _ _ _ _ _ c.new-text.ensures.bytes (rw are.replies_a at c.in_ok-print_replies.ensures) (rw are.replies_b at c.in_ok-print_replies-2.ensures) joins.text c.in_ok-print_tree.ensures c.in_ok-print_tree-2.ensures;
    }
