use Rattle.hashbag_slots.proofs.cells.Cells.put_first.Goals as goal

pub invariant_of-self : goal.invariant_of-self
invariant_of-self g c = c.replace_with.ensures.1 c.self.inside.alloc
