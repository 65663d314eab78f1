use Rattle.std.proofs.Common.{arith}
use Rattle.hashbag_slots.proofs.Dropping.{all_blank}
use Rattle.hashbag_slots.proofs.live.drop_if_live.Goals as goal

pub returns-else-live-gt0 : goal.returns-else-live-gt0
returns-else-live-gt0 g c = all_blank c.args.tags.now c.args.cells.now c.requires.agree (c.requires.live (let none = c.if-live-gt0.false in omega arith))
