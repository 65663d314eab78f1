use Rattle.std.proofs.Common.{arith}
use Rattle.hashbag_slots.proofs.Paths.{count_bound}
use Rattle.hashbag_table.proofs.RoomLemmas.{IsSlotCount-16, IsSlotCount-double}
use Rattle.hashbag_table.proofs.LeastLemmas.{below_first, below_double, least_from}
use Rattle.hashbag_table.proofs.capacity.least_slots.Goals as goal

pub most_used-requires : goal.most_used-requires
most_used-requires c = count_bound _ c.slots.invariant.count

pub slots-preserved-then-slots-eq0 : goal.slots-preserved-then-slots-eq0
slots-preserved-then-slots-eq0 c = record {
  count = IsSlotCount-16;
  from = let f = c.slots.invariant.from in let z = c.if-slots-eq0.true in omega (arith, f, z);
  below = below_first c.args.from c.args.values c.slots.slots c.if-slots-eq0.true (let t = c.slots-test.true in let l = c.most_used.ensures in omega (arith, t, l));
}

pub slots-preserved : goal.slots-preserved
slots-preserved c = record {
  count = IsSlotCount-double c.slots.slots c.slots.invariant.count c.if-slots-ge-MOST_SLOTS.false c.if-slots-eq0.false;
  from = let f = c.slots.invariant.from in omega (arith, f);
  below = below_double c.args.from c.args.values c.slots.slots c.slots.invariant.count (let z = c.if-slots-eq0.false in omega arith) (let t = c.slots-test.true in let l = c.most_used.ensures in omega (arith, t, l)) c.slots.invariant.below;
}

pub returns-clause-least : goal.returns-clause-least
returns-clause-least c =
    least_from c.args.from c.args.values c.slots.slots c.slots.invariant.count c.slots.invariant.from (let e = c.slots-test.false in let l = c.most_used.ensures in omega (arith, e, l)) c.slots.invariant.below

pub returns-then-slots-ge-MOST_SLOTS-clause-past_most : goal.returns-then-slots-ge-MOST_SLOTS-clause-past_most
returns-then-slots-ge-MOST_SLOTS-clause-past_most c err =
    let b = count_bound c.slots.slots c.slots.invariant.count in let a = c.if-slots-ge-MOST_SLOTS.true in let short = c.slots-test.true in let l = c.most_used.ensures in
    omega (arith, a, b, short, l)
