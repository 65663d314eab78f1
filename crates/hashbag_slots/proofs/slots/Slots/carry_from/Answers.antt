use Rattle.std.proofs.Common.{◌≡◌, ◌+◌, ◌-◌, ◌<◌, ◌≤◌, subst, arith}
use Rattle.hashbag_slots.specs.Hashing.{hash_under}
use Rattle.hashbag_slots.specs.Columns.{CarriesInto}
use Rattle.hashbag_slots.proofs.Carrying.{CarriesInto-join}
use Rattle.hashbag_slots.proofs.slots.Slots.carry_from.Goals as goal

pub places-preserved-then-at-end : goal.places-preserved-then-at-end
places-preserved-then-at-end g c =
    let i = c.places.invariant in let begun = i.begun in let sixteen : c.places.at + 16 ≤ c.args.from + c.args.many = c.if-at-end.true in
    record {
      begun = omega arith;
      within = omega arith;
      carries = CarriesInto-join g.T.PartialEq.eq _ c.args.from c.places.at 16 c.args.self.now c.args.older.now c.places.self c.places.older c.carry_group.new.self c.carry_group.new.older begun i.carries c.carry_group.ensures;
    }

pub places-preserved : goal.places-preserved
places-preserved g c =
    let i = c.places.invariant in let begun = i.begun in let before : c.places.at < c.args.from + c.args.many = c.places-test.true in
    record {
      begun = omega arith;
      within = omega arith;
      carries = CarriesInto-join g.T.PartialEq.eq _ c.args.from c.places.at 1 c.args.self.now c.args.older.now c.places.self c.places.older c.carry_slot.new.self c.carry_slot.new.older begun i.carries c.carry_slot.ensures;
    }

pub returns : goal.returns
returns g c =
    let i = c.places.invariant in let begun = i.begun in let within = i.within in let over = c.places-test.false in
    let all : c.places.at - c.args.from ≡ c.args.many = omega arith in
    subst (λ n. CarriesInto g.T.PartialEq.eq (hash_under g.T.Hash.hash_input g.S.BuildHasher g.S.Hasher.Hasher c.args.state.now) c.args.from n c.args.self.now c.args.older.now c.places.self c.places.older) all i.carries
