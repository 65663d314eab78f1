-- A growth: a new table of Empty slots takes the place of a full one.
use Rattle.std.proofs.Common.{◌≡◌, ℕ, ◌+◌, ◌-◌, ◌*◌, ◌<◌, ◌≤◌, Bool, [], ◌++◌, length, drop, replicate, sym, ap, subst, ◌∙◌, arith}
use Rattle.std.proofs.lemmas.List.{append-nil, length-replicate}
use Rattle.hashbag_slots.specs.declared.slots.Slot.TheVariants.{Empty}
use Rattle.hashbag_slots.specs.Slots.{IsSlotCount, live_count, entries}
use Rattle.hashbag_slots.specs.Columns.{Columns, IsReached}
use Rattle.hashbag_table.specs.Entries.{IsCounted}
use Rattle.hashbag_table.specs.Tables.{Tables, IsTables, MayAdopt, Carried, Roomy, grown_slots, room, room_of}
use Rattle.hashbag_table.proofs.CarryLemmas.{alone_full, live_alone, entries_fresh, may_grow, room_first}
use Rattle.hashbag_table.proofs.RoomLemmas.{grown_room, Roomy_at}

-- the newer table is full, and `fresh` is the one that follows it
pub record Grows {T : Type 0} (eq : T → T → Bool) (hash : T → ℕ) (newer older fresh : Columns T) (carried_to : ℕ) : Type 0 where
  pub before : IsTables eq hash newer older carried_to
  pub full : room_of newer.slots (drop carried_to older.slots) ≡ 0
  pub count : IsSlotCount (length newer.slots)
  pub slots : fresh.slots ≡ replicate (grown_slots (length newer.slots) (live_count newer.slots)) Empty
  pub reached : IsReached hash fresh

module _ {T : Type 0} {eq : T → T → Bool} {hash : T → ℕ} {newer older fresh : Columns T} {carried_to : ℕ} (grows : Grows eq hash newer older fresh carried_to) where
  pub alone : drop carried_to older.slots ≡ []
  alone = alone_full eq hash newer older carried_to grows.before grows.full

  counted : IsCounted eq (entries newer.slots)
  counted = subst (IsCounted eq) (ap (λ ss. entries newer.slots ++ entries ss) alone ∙ append-nil (entries newer.slots)) grows.before.counted

  size : length fresh.slots ≡ grown_slots (length newer.slots) (live_count newer.slots)
  size = ap length grows.slots ∙ length-replicate (grown_slots (length newer.slots) (live_count newer.slots)) Empty

  empty : fresh.slots ≡ replicate (length fresh.slots) Empty
  empty = grows.slots ∙ ap (λ k. replicate k Empty) (sym size)

  roomy : Roomy (length newer.slots) (live_count newer.slots) (length fresh.slots)
  roomy =
      let f = grows.before.tables.fits in
      Roomy_at _ _ _ _ size (grown_room (length newer.slots) (live_count newer.slots) grows.count (omega (arith, f)))

  pub may_adopt : MayAdopt eq hash fresh newer.slots 16
  may_adopt = may_grow eq hash newer fresh counted empty grows.reached roomy

  -- it has the slots that the next growth was to keep, and there is room after the growth
  pub slots_after : fresh.slots ≡ replicate (grown_slots (length newer.slots) (live_count newer.slots + live_count (drop carried_to older.slots))) Empty
  slots_after = grows.slots ∙ ap (λ k. replicate (grown_slots (length newer.slots) k) Empty) (live_alone newer.slots (drop carried_to older.slots) alone)

  pub room_after : (now : Tables T) → Carried 16 fresh.slots newer.slots now.newer now.waiting → (0 < room now) × (length now.waiting ≤ 16 * (room now - 1))
  room_after now h = room_first eq hash newer fresh counted empty grows.reached roomy now.newer now.waiting h

  pub no_entries : entries fresh.slots ≡ []
  no_entries = entries_fresh fresh.slots empty
