use Rattle.std.proofs.Common.{take}
use Rattle.hashbag_slots.proofs.Writing.{blank_columns, blank_slots, blank_reached}
use Rattle.hashbag_slots.proofs.slots.Slots.with_slots.Goals as goal

pub invariant_of-result : goal.invariant_of-result
invariant_of-result g c = record {
  shown = blank_columns c.args.n (take c.args.n c.in_ok-tags.tags.items) c.in_ok-cells.cells c.in_ok-tags.ensures.tags c.in_ok-cells.ensures.cells g.T.PartialEq.eq c.requires;
  guarded = c.in_ok-tags.ensures.guarded;
}

pub returns-clause-slots : goal.returns-clause-slots
returns-clause-slots g c = blank_slots c.args.n (take c.args.n c.in_ok-tags.tags.items) c.in_ok-cells.cells c.in_ok-tags.ensures.tags c.in_ok-cells.ensures.cells

pub returns-clause-reached : goal.returns-clause-reached
returns-clause-reached g c hash = blank_reached c.args.n (take c.args.n c.in_ok-tags.tags.items) c.in_ok-cells.cells c.in_ok-tags.ensures.tags c.in_ok-cells.ensures.cells hash
