use Rattle.std.proofs.Common.{◌≡◌, get_or, None, sym, ap, ◌∙◌, arith}
use Rattle.hashbag_slots.specs.Cells.{filled_values}
use Rattle.hashbag_slots.proofs.Values.{full_place, full_cell}
use Rattle.hashbag_slots.proofs.row.Row.get.Goals as goal

pub get-requires : goal.get-requires
get-requires g c =
    let row = c.self.inside.row in
    let seen : filled_values row.items row.filled ≡ c.args.self.now = c.self.view_is in
    let at = full_place row.items row.filled c.args.place c.requires.0 (sym row.ok.0 ∙ row.ok.1) (ap (λ cs. get_or cs c.args.place None) seen ∙ c.requires.1) in
    let within = at.0 in let len = row.ok.1 in
    (omega arith, at.1)

pub returns : goal.returns
returns g c =
    let row = c.self.inside.row in
    let seen : filled_values row.items row.filled ≡ c.args.self.now = c.self.view_is in
    let at = full_place row.items row.filled c.args.place c.requires.0 (sym row.ok.0 ∙ row.ok.1) (ap (λ cs. get_or cs c.args.place None) seen ∙ c.requires.1) in
    sym (ap (λ cs. get_or cs c.args.place None) seen) ∙ full_cell row.items row.filled c.args.place c.get.result.now (sym row.ok.0 ∙ row.ok.1) at.1 c.get.ensures
