use Rattle.std.proofs.Common.{rules}
use Rattle.std.proofs.lemmas.Iterator.Adapters.{YieldsList-from_vec}
use Rattle.hashbag_core.proofs.InsertLemmas.{all_made}
use Rattle.hashbag_csv.proofs.QuantityLemmas.{counts_made, length_made}
use Rattle.hashbag_ledger_lib.proofs.ledger.stock_of_list.Goals as goal

-- the pairs that came are those of the list
pub returns-in-Ok-clause-counts : goal.returns-in-Ok-clause-counts
returns-in-Ok-clause-counts g c =
    let made = c.with_hasher-stock.ensures in
    counts_made g.met.T.Eq.laws (YieldsList-from_vec {s = c.into_iter.result} c.args.list.items (search rules) (search rules)) c.extend_many.new.self.hasher c.extend_many.new.self
    (all_made g.met.T.Eq.laws made.empty made.slots made.limit c.in-Ok.ensures.all)

pub returns-in-Ok-clause-len : goal.returns-in-Ok-clause-len
returns-in-Ok-clause-len g c =
    let made = c.with_hasher-stock.ensures in
    length_made g.met.T.Eq.laws (YieldsList-from_vec {s = c.into_iter.result} c.args.list.items (search rules) (search rules)) c.extend_many.new.self.hasher c.extend_many.new.self
    (all_made g.met.T.Eq.laws made.empty made.slots made.limit c.in-Ok.ensures.all)
