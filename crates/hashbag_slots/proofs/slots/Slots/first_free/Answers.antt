use Rattle.std.proofs.Common.{◌≡◌, ℕ, ◌<◌, ◌≤◌, length, get_or, sym, ap, subst, ◌∙◌, arith, take}
use Rattle.hashbag_slots.specs.Slots.{IsSlotCount, path_slot, live_count, IsFirstFree}
use Rattle.hashbag_slots.specs.Columns.{slots_of}
use Rattle.hashbag_slots.proofs.Reading.{length-slots_of, low_at, first_low}
use Rattle.hashbag_slots.proofs.Tables.{some_free}
use Rattle.hashbag_slots.proofs.slots.Slots.first_free.Goals as goal

pub first_free-requires-clause-slots : goal.first_free-requires-clause-slots
first_free-requires-clause-slots g c =
    subst IsSlotCount (length-slots_of (take c.self.inside.slots c.self.inside.tags.items) c.self.inside.cells c.self.invariant.shown.agree.same_length ∙ sym (ap (λ us. length (take c.self.inside.slots us)) c.as_slice.ensures.value)) c.self.invariant.shown.table.count

pub first_free-requires-clause-room : goal.first_free-requires-clause-room
first_free-requires-clause-room g c =
    let ts = (take c.self.inside.slots c.self.inside.tags.items) in let cs = c.self.inside.cells in let ss = slots_of ts cs in
    let room : live_count ss < length ss = subst (λ s. live_count s.slots < length s.slots) (sym c.self.view_is) c.requires.room in
    let free = some_free ss room in
    let len = length-slots_of ts cs c.self.invariant.shown.agree.same_length in let low = free.1 in
    subst (λ us. (p : ℕ) × (p < length (take c.self.inside.slots us)) × (get_or (take c.self.inside.slots us) p 0 < 128)) (sym c.as_slice.ensures.value) (free.0, omega arith, low_at ts cs c.self.invariant.shown.agree free.0 free.2)

pub returns : goal.returns
returns g c =
    let ts = (take c.self.inside.slots c.self.inside.tags.items) in let cs = c.self.inside.cells in let h = c.args.hash in let at = c.first_free.result in
    let free = subst (λ us. get_or (take c.self.inside.slots us) at 0 < 128) c.as_slice.ensures.value c.first_free.ensures.free in
    let path = subst (λ us. (step : ℕ) × (step < length (take c.self.inside.slots us)) × (at ≡ path_slot (length (take c.self.inside.slots us)) h step) × ((before : ℕ) → before < step → 128 ≤ get_or (take c.self.inside.slots us) (path_slot (length (take c.self.inside.slots us)) h before) 0)) c.as_slice.ensures.value c.first_free.ensures.path in
    record { free = subst (λ s. IsFirstFree h s.slots at) c.self.view_is (first_low ts cs c.self.invariant.shown.agree h at path.0 path.1 path.2 free path.3) }
