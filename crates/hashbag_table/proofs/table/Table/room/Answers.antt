use Rattle.std.proofs.Common.{◌≡◌, ◌-◌, arith, ap, ◌∙◌, length, drop}
use Rattle.hashbag_table.specs.Tables.{most_used, room, room_of}
use Rattle.hashbag_table.proofs.SlotLemmas.{live-drop}
use Rattle.hashbag_table.proofs.table.Table.room.Goals as goal

pub overflow_sub-result-3 : goal.overflow_sub-result-3
overflow_sub-result-3 g c =
    let t = c.self.invariant.kept.tables in
    let l = live-drop c.self.inside.older.slots c.self.inside.carried_to t.carried_within t.carried_not_live in
    let a = c.live.ensures in let b = c.removed.ensures in let d = c.live-2.ensures in
    let f : c.most_used.result ≡ most_used (length c.self.inside.newer.slots) = c.most_used.ensures ∙ ap most_used c.slots.ensures.value in let h = t.fits in omega (arith, l, a, b, d, f, h)

pub returns : goal.returns
returns g c =
    let t = c.self.invariant.kept.tables in
    let l = live-drop c.self.inside.older.slots c.self.inside.carried_to t.carried_within t.carried_not_live in
    let e : c.most_used.result - c.live.result - c.removed.result - c.live-2.result ≡ room_of c.self.inside.newer.slots (drop c.self.inside.carried_to c.self.inside.older.slots)
    = let a = c.live.ensures in let b = c.removed.ensures in let d = c.live-2.ensures in
    let f : c.most_used.result ≡ most_used (length c.self.inside.newer.slots) = c.most_used.ensures ∙ ap most_used c.slots.ensures.value in omega (arith, l, a, b, d, f) in
    e ∙ ap (λ t. room t.tables) c.self.view_is
