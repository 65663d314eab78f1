use Rattle.std.proofs.Common.{◌≡◌, ap, ◌∙◌, slice_set}
use Rattle.std.proofs.lemmas.List.{get_or-set_same}
use Rattle.hashbag_slots.specs.declared.slots.Slot.TheVariants.{Empty, Live}
use Rattle.hashbag_slots.specs.Slots.{is_live, slot_at, count_in, recounted}
use Rattle.hashbag_slots.proofs.Tables.{within_table}
use Rattle.hashbag_slots.proofs.Writing.{set_twice}
use Rattle.hashbag_table.proofs.table.spots.store_once.Goals as goal

pub returns-clause-after : goal.returns-clause-after
returns-clause-after g c =
    let ss = c.args.slots.now.slots in let p = c.args.place in let v = c.args.value in
    let k = count_in (slot_at ss p) in
    let within = within_table ss p (ap is_live c.put_at-former.ensures.former) in
    let there : slot_at c.put_at-former.new.self.slots p ≡ Live v k = ap (λ us. slot_at us p) c.put_at-former.ensures.after ∙ get_or-set_same ss p (Live v k) Empty within in
    c.set_at.ensures.after ∙ ap (λ s. slice_set c.put_at-former.new.self.slots p (recounted 1 s)) there ∙ ap (λ us. slice_set us p (Live v 1)) c.put_at-former.ensures.after ∙ set_twice ss p (Live v k) (Live v 1)
