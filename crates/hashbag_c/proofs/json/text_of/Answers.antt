use Rattle.serde_json.specs.View.{view}
use Rattle.hashbag_c.proofs.JsonTextLemmas.{within_depth}
use Rattle.hashbag_c.proofs.json.text_of.Goals as goal

pub returns-clause-json : goal.returns-clause-json
returns-clause-json g c =
    let bag = c.args.bag.now in let tree = view c.in_ok-tree.tree in
    record {
      tree = tree;
      is_tree = c.in_ok-tree.ensures.tree;
      text_is = c.in_ok-to_string.ensures.text c.in_ok-tree.ensures.no_float;
      is_read = c.in_ok-to_string.ensures.reads_back (within_depth _ _ _ c.requires.shallow c.requires.same bag.items bag.most tree c.in_ok-tree.ensures.tree);
      no_fault = c.in_ok-tree.ensures.no_fault;
      counts = c.in_ok-tree.ensures.counts;
      limit = c.in_ok-tree.ensures.limit;
    }
