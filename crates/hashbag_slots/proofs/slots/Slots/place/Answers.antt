use Rattle.std.proofs.Common.{subst}
use Rattle.hashbag_slots.specs.Hashing.{hash_under}
use Rattle.hashbag_slots.specs.Slots.{PlacesAlong}
use Rattle.hashbag_slots.proofs.slots.Slots.place.Goals as goal

pub place_hashed-requires-clause-hashed : goal.place_hashed-requires-clause-hashed
unfolding hash_under
place_hashed-requires-clause-hashed g c = c.hash_of-hash.ensures

pub returns-clause-first : goal.returns-clause-first
unfolding hash_under
returns-clause-first g c = subst (λ h. PlacesAlong h c.args.value c.args.n c.args.self.now.slots c.place_hashed.new.self.slots) c.hash_of-hash.ensures c.place_hashed.ensures.first
