use Rattle.hashbag_core.proofs.HeldLemmas.{room_made}
use Rattle.hashbag_core.proofs.bag.HashBag.with_capacity_and_hasher.Goals as goal

pub returns-clause-room : goal.returns-clause-room
returns-clause-room g c = room_made c.args.n c.in_ok-table.table.tables c.in_ok-table.ensures.fresh c.in_ok-table.ensures.least c.in_ok-table.ensures.packed
