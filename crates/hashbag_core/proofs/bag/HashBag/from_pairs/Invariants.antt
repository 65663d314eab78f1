use Rattle.std.proofs.Common.{◌≡◌, drop, map}
use Rattle.serde_json.specs.View.{view}
use Rattle.hashbag_core.proofs.JsonReadLemmas.{IsReadTo}
use Rattle.hashbag_core.proofs.bag.HashBag.from_pairs.Given as goal

-- the pairs before this one were read, and went in in turn
abbrev pub invariant-loop-number : goal.invariant-loop-number
invariant-loop-number g l = record {
  read : IsReadTo g.met.T.Eq.laws l.fn.most g.T.JsonItem.has_item g.T.JsonItem.reads l.initial.bag (map view l.pair-items) (map view (drop l.number l.pair-items)) l.number l.bag;
  limit : l.bag.most ≡ l.fn.most;
  hasher : l.bag.hasher ≡ l.initial.bag.hasher;
}
