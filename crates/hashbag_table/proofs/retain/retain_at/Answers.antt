use Rattle.std.proofs.Common.{◌≡◌, min, refl, sym, ap, ◌∙◌, arith}
use Rattle.hashbag_slots.specs.declared.slots.Slot.TheVariants.{Removed, Live}
use Rattle.hashbag_slots.specs.Slots.{slot_at, recounted}
use Rattle.hashbag_table.proofs.RetainLemmas.{live_entry, live_within, written_at, left_some, left_none, leaves_live}
use Rattle.hashbag_table.proofs.retain.retain_at.Goals as goal

pub f-requires : goal.f-requires
f-requires g c = c.requires.callable (c.live_at-count.result.0.now, c.live_at-count.result.1) (sym c.live_at-count.ensures) c.live_at-count.result.0 refl

pub returns-then-left-gt0-clause-called : goal.returns-then-left-gt0-clause-called
returns-then-left-gt0-clause-called g c =
    let ss = c.args.slots.now.slots in let p = c.args.place in let v = c.live_at-count.result.0.now in let n = c.live_at-count.result.1 in let a = c.f.result in
    let here = live_entry (slot_at ss p) v n c.live_at-count.ensures in
    let least : c.min-left.result ≡ min a n = c.min-left.ensures in
    let some = c.if-left-gt0.true in
    let after = written_at ss c.set_at.new.self.slots p (recounted c.min-left.result (slot_at ss p)) (live_within ss p c.requires.live) c.set_at.ensures.after in
    leaves_live g.F.FnMut c.args.f.now c.f.new.self (slot_at ss p) (slot_at c.set_at.new.self.slots p) v n a here
    (record { value = c.live_at-count.result.0; shows = refl; called = c.f.ensures })
    (after ∙ ap (recounted c.min-left.result) here ∙ ap (λ m. Live v m) least ∙ sym (left_some v n a (omega (arith, least, some))))

pub returns-clause-called : goal.returns-clause-called
returns-clause-called g c =
    let ss = c.args.slots.now.slots in let p = c.args.place in let v = c.live_at-count.result.0.now in let n = c.live_at-count.result.1 in let a = c.f.result in
    let here = live_entry (slot_at ss p) v n c.live_at-count.ensures in
    let least : c.min-left.result ≡ min a n = c.min-left.ensures in
    let none = c.if-left-gt0.false in
    let after = written_at ss c.take_at-former.new.self.slots p Removed (live_within ss p c.requires.live) c.take_at-former.ensures.after in
    leaves_live g.F.FnMut c.args.f.now c.f.new.self (slot_at ss p) (slot_at c.take_at-former.new.self.slots p) v n a here
    (record { value = c.live_at-count.result.0; shows = refl; called = c.f.ensures })
    (after ∙ sym (left_none v n a (omega (arith, least, none))))
