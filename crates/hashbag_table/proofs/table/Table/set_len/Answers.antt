use Rattle.std.proofs.Common.{◌≡◌, ◌+◌, arith, length, drop, ap, ◌∙◌}
use Rattle.std.proofs.lemmas.List.{length-append}
use Rattle.hashbag_slots.specs.Slots.{entries}
use Rattle.hashbag_table.specs.Tables.{entries_of}
use Rattle.hashbag_table.proofs.SlotLemmas.{live-drop, length-entries}
use Rattle.hashbag_table.proofs.table.Table.set_len.Goals as goal

pub overflow_add-result : goal.overflow_add-result
overflow_add-result g c =
    let n = c.self.inside.newer.slots in let o = c.self.inside.older.slots in let k = c.self.inside.carried_to in let t = c.self.invariant.kept.tables in
    let l = live-drop o k t.carried_within t.carried_not_live in
    let f = t.fits in let a = c.live.ensures in let b = c.live-2.ensures in let w = c.slots-slots.ensures.bound in let v = c.slots-slots.ensures.value in omega arith

pub returns-clause-len : goal.returns-clause-len
returns-clause-len g c =
    let n = c.self.inside.newer.slots in let o = c.self.inside.older.slots in let k = c.self.inside.carried_to in let t = c.self.invariant.kept.tables in
    let l = live-drop o k t.carried_within t.carried_not_live in
    let x = length-append (entries n) (entries (drop k o)) in
    let a = c.live.ensures in let b = c.live-2.ensures in
    let p = length-entries n in let q = length-entries (drop k o) in
    let e : c.live.result + c.live-2.result ≡ length (entries_of n (drop k o)) = omega arith in
    e ∙ ap (λ m. length m.entries) c.self.view_is
