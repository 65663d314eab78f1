use Rattle.std.proofs.Common.{◌≡◌, get_or, None, sym, ap, ◌∙◌, arith, slice_set}
use Rattle.hashbag_slots.specs.Cells.{filled_values}
use Rattle.hashbag_slots.proofs.Values.{full_place, full_cell, take-filled_values}
use Rattle.hashbag_slots.proofs.row.Row.take.Goals as goal

pub take-requires : goal.take-requires
take-requires g c =
    let row = c.self.inside.row in
    let seen : filled_values row.items row.filled ≡ c.args.self.now = c.self.view_is in
    let at = full_place row.items row.filled c.args.place c.requires.0 (sym row.ok.0 ∙ row.ok.1) (ap (λ cs. get_or cs c.args.place None) seen ∙ c.requires.1) in
    let within = at.0 in let len = row.ok.1 in
    (omega arith, at.1)

pub returns-clause-value : goal.returns-clause-value
returns-clause-value g c =
    let row = c.self.inside.row in
    let seen : filled_values row.items row.filled ≡ c.args.self.now = c.self.view_is in
    let at = full_place row.items row.filled c.args.place c.requires.0 (sym row.ok.0 ∙ row.ok.1) (ap (λ cs. get_or cs c.args.place None) seen ∙ c.requires.1) in
    sym (ap (λ cs. get_or cs c.args.place None) seen) ∙ full_cell row.items row.filled c.args.place c.take.result (sym row.ok.0 ∙ row.ok.1) at.1 c.take.ensures.value

pub returns-clause-after : goal.returns-clause-after
returns-clause-after g c =
    let row = c.self.inside.row in
    let seen : filled_values row.items row.filled ≡ c.args.self.now = c.self.view_is in
    (λ i. filled_values (c.take.ensures.items i) (c.take.ensures.filled i)) ∙ take-filled_values row.items row.filled c.args.place (sym row.ok.0 ∙ row.ok.1) ∙ ap (λ cs. slice_set cs c.args.place None) seen
