use Rattle.std.proofs.Common.{arith, sym, ap, ◌∙◌, length, drop}
use Rattle.std.proofs.lemmas.List.{length-append}
use Rattle.hashbag_slots.specs.Slots.{entries}
use Rattle.hashbag_table.specs.Tables.{room}
use Rattle.hashbag_table.proofs.SlotLemmas.{length-entries}
use Rattle.hashbag_table.proofs.table.Table.capacity.Goals as goal

pub overflow_add-result : goal.overflow_add-result
overflow_add-result g c =
    let n = c.self.inside.newer.slots in let w = drop c.self.inside.carried_to c.self.inside.older.slots in
    let t = c.self.invariant.kept.tables in
    let x = length-append (entries n) (entries w) in
    let p = length-entries n in let q = length-entries w in let f = t.fits in
    let a = c.set_len.ensures.len ∙ sym (ap (λ m. length m.entries) c.self.view_is) in let b = c.room.ensures ∙ sym (ap (λ t. room t.tables) c.self.view_is) in
    let u = c.slots-slots.ensures.bound in let v = c.slots-slots.ensures.value in omega arith

pub returns : goal.returns
returns g c =
    let held = c.set_len.ensures.len in let room = c.room.ensures in
    omega (arith, held, room)
