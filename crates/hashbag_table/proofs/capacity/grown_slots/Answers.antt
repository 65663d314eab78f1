use Rattle.hashbag_slots.proofs.Paths.{count_bound}
use Rattle.hashbag_table.proofs.RoomLemmas.{IsSlotCount-double}
use Rattle.hashbag_table.proofs.capacity.grown_slots.Goals as goal

pub is_sparse-requires-clause-count : goal.is_sparse-requires-clause-count
is_sparse-requires-clause-count g = count_bound _ g.requires.count

pub returns-clause-slots : goal.returns-clause-slots
returns-clause-slots g = IsSlotCount-double _ g.requires.count g.if-slots-ge-MOST_SLOTS.false g.if-slots-eq0.false
