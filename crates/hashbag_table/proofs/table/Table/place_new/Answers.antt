use Rattle.hashbag_slots.specs.Hashing.{hash_under}
use Rattle.hashbag_table.proofs.AddLemmas.{stores_arrived}
use Rattle.hashbag_table.proofs.CarryLemmas.{arrives_from, ready_alone}
use Rattle.hashbag_table.proofs.table.Table.place_new.Goals as goal

pub place_at_once-requires-clause-hashed : goal.place_at_once-requires-clause-hashed
unfolding hash_under
place_at_once-requires-clause-hashed g c = c.hash-hash.ensures

pub returns-clause-stored : goal.returns-clause-stored
returns-clause-stored g c =
    let t = c.args.self.now.tables in
    stores_arrived g.T.PartialEq.eq g.met.T.Eq.laws c.args.value c.args.count c.args.self.now c.place_at_once.new.self c.requires.absent c.place_at_once.ensures.entries
    (arrives_from t t c.place_at_once.new.self.tables c.args.value c.args.count (ready_alone t c.requires.none_waits c.requires.room) c.place_at_once.ensures.placed c.place_at_once.ensures.waiting c.place_at_once.ensures.built)
