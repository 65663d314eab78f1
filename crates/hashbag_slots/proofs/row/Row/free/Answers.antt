use Rattle.std.proofs.Common.{◌≡◌, sym, subst, ◌∙◌}
use Rattle.hashbag_slots.specs.Cells.{IsBlank, filled_values}
use Rattle.hashbag_slots.proofs.Values.{blank_places}
use Rattle.hashbag_slots.proofs.row.Row.free.Goals as goal

pub from_memory-requires : goal.from_memory-requires
from_memory-requires g c k lt =
    let row = c.self.inside.row in
    let seen : filled_values row.items row.filled ≡ c.args.self = c.self.view_is in
    blank_places row.items row.filled (sym row.ok.0 ∙ row.ok.1) (subst IsBlank (sym seen) c.requires) k
