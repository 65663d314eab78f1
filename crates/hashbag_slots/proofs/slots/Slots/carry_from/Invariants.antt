use Rattle.std.proofs.Common.{◌-◌, ◌≤◌}
use Rattle.hashbag_slots.specs.Hashing.{hash_under}
use Rattle.hashbag_slots.specs.Columns.{CarriesInto}
use Rattle.hashbag_slots.proofs.slots.Slots.carry_from.Given as goal

abbrev pub invariant-places : goal.invariant-places
invariant-places g l = record {
  begun : l.from ≤ l.at;
  within : l.at ≤ l.end;
  carries : CarriesInto g.T.PartialEq.eq (hash_under g.T.Hash.hash_input g.S.BuildHasher g.S.Hasher.Hasher l.state) l.from (l.at - l.from) l.initial.self l.initial.older l.self l.older;
}

abbrev pub decreases-places : goal.decreases-places
decreases-places g l = l.end - l.at
