use Rattle.hashbag_slots.specs.Hashing.{hash_under}
use Rattle.hashbag_table.proofs.table.Table.insert_new.Goals as goal

pub insert_hashed-requires-clause-hashed : goal.insert_hashed-requires-clause-hashed
unfolding hash_under
insert_hashed-requires-clause-hashed g c = c.hash-hash.ensures
