use Rattle.hashbag_slots.proofs.Strides.{free_later}
use Rattle.hashbag_slots.proofs.slots.Slots.free_from.Goals as goal

pub returns : goal.returns
returns g c = record { free = λ hash step within there front. free_later c.args.self.now.slots hash c.args.place step there front c.first_free.result c.first_free.ensures.free }
