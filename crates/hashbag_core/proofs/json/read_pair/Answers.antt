use Rattle.std.proofs.Common.{sym, arith, rules}
use Rattle.serde_json.specs.View.{view}
use Rattle.hashbag_core.proofs.JsonReadLemmas.{good_pair}
use Rattle.hashbag_core.proofs.json.read_pair.Goals as goal

pub returns-in-Ok-insert_within-clause-no_fault : goal.returns-in-Ok-insert_within-clause-no_fault
returns-in-Ok-insert_within-clause-no_fault g c =
    let within = c.in-Ok-insert_within.ensures.inserted.added.bag.fits in
    let same = c.in-Ok-insert_within.ensures.inserted.added.limit in
    good_pair g.met.T.Eq.laws c.args.bag.now.most g.T.JsonItem.has_item g.T.JsonItem.reads _ _ _ c.args.number c.args.bag.now.items c.insert_within.new.self.items c.in-Ok.item c.in-Some-as_u64.count
    (sym c.in-Some.ensures) (sym c.in-Some-as_u64.ensures) (g.met.T.JsonItem.read_has_item _ c.in-Ok.item c.in-Ok.ensures.item.1) c.in-Ok-insert_within.ensures.inserted.added.means (omega (arith, within, same))

pub returns-in-Ok-insert_within-clause-read : goal.returns-in-Ok-insert_within-clause-read
returns-in-Ok-insert_within-clause-read g c = (
  (c.in-Ok.item, c.in-Some-as_u64.count),
  record {
    tree = view c.in-Some.tree.now;
    number = view c.in-Some.count.now;
    parts = sym c.in-Some.ensures;
    item = c.in-Ok.ensures.item.1;
    count = sym c.in-Some-as_u64.ensures;
  },
  c.in-Ok-insert_within.ensures.inserted,
)

pub returns-in_default-as_u64-clause-fault : goal.returns-in_default-as_u64-clause-fault
returns-in_default-as_u64-clause-fault g c = search rules

pub returns-in_default-as_u64-clause-may_run_out : goal.returns-in_default-as_u64-clause-may_run_out
returns-in_default-as_u64-clause-may_run_out g c = λ is. absurd (cc)

pub returns-in-Err-NotAnItem-clause-no_fault : goal.returns-in-Err-NotAnItem-clause-no_fault
returns-in-Err-NotAnItem-clause-no_fault g c = tt

pub returns-in-Err-NotAnItem-clause-read : goal.returns-in-Err-NotAnItem-clause-read
returns-in-Err-NotAnItem-clause-read g c = tt
