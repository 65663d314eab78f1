use Rattle.std.proofs.Common.{◌≡◌, length, Some, sym, ap, ◌∙◌, arith, slice_set}
use Rattle.hashbag_slots.specs.Cells.{filled_values}
use Rattle.hashbag_slots.proofs.Values.{length-filled_values, put-filled_values}
use Rattle.hashbag_slots.proofs.row.Row.put.Goals as goal

pub put-requires : goal.put-requires
put-requires g c =
    let row = c.self.inside.row in
    let same = sym row.ok.0 ∙ row.ok.1 in
    let seen : filled_values row.items row.filled ≡ c.args.self.now = c.self.view_is in
    let len = length-filled_values row.items row.filled same in let is = ap length seen in let low = c.requires.within in let ok = row.ok.0 in
    omega arith

pub returns : goal.returns
returns g c =
    let row = c.self.inside.row in
    let seen : filled_values row.items row.filled ≡ c.args.self.now = c.self.view_is in
    (λ i. filled_values (c.put.ensures.items i) (c.put.ensures.filled i)) ∙ put-filled_values row.items row.filled c.args.place c.args.value (sym row.ok.0 ∙ row.ok.1) ∙ ap (λ cs. slice_set cs c.args.place (Some c.args.value)) seen
