use Rattle.std.proofs.Common.{◌≡◌, ◌<◌, length, Some, None, get_or, sym, ap, subst, ◌∙◌, slice_set}
use Rattle.hashbag_slots.specs.Cells.{filled_values}
use Rattle.hashbag_slots.specs.Stores.{cells_of}
use Rattle.hashbag_slots.proofs.Values.{no-filled_values}
use Rattle.hashbag_slots.proofs.cells.put_into.Goals.{in-Unwritten, in-Written, Joined-store}
use Rattle.hashbag_slots.proofs.cells.put_into.Goals as goal

-- the row has the cells of the store
seen : (g : _) (c : goal.Joined-store g) → c.match-store.row ≡ cells_of c.args.store
seen g c = elim c.match-store.branch [
  | in-Unwritten w ↦
      let made = w.into_memory.result in
      w.row-is ∙ w.new-row.ensures ∙ ap (filled_values made.items) w.into_memory.ensures.2 ∙ no-filled_values made.items w.in-Unwritten.block.len (sym made.ok.0 ∙ w.into_memory.ensures.1) ∙ sym (ap cells_of w.in-Unwritten.is)
  | in-Written w ↦ w.row-is ∙ sym (ap cells_of w.in-Written.is)
]

pub put-requires-clause-within : goal.put-requires-clause-within
put-requires-clause-within g c = subst (λ cs. c.args.cell.0 < length cs) (sym (seen g (goal.at.put-requires-clause-within g c).Joined-store)) c.requires.within

pub put-requires-clause-empty : goal.put-requires-clause-empty
put-requires-clause-empty g c = ap (λ cs. get_or cs c.args.cell.0 None) (seen g (goal.at.put-requires-clause-empty g c).Joined-store) ∙ c.requires.empty

pub returns-clause-cells : goal.returns-clause-cells
returns-clause-cells g c = c.put.ensures ∙ ap (λ cs. slice_set cs c.args.cell.0 (Some c.args.cell.1)) (seen g (goal.at.returns-clause-cells g c).Joined-store)
