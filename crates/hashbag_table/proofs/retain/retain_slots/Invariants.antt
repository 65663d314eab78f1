use Rattle.std.proofs.Common.{◌≡◌, ℕ, ◌+◌, ◌<◌, ◌≤◌, ◌^◌, List, drop}
use Rattle.hashbag_slots.specs.declared.slots.Slot.{Slot}
use Rattle.hashbag_slots.specs.Slots.{live_count, entries}
use Rattle.hashbag_slots.specs.Columns.{IsReached}
use Rattle.hashbag_table.specs.Returned.{MayCallInTurn}
use Rattle.hashbag_table.specs.Entries.{total}
use Rattle.hashbag_table.specs.Retained.{RetainsFrom}
use Rattle.hashbag_table.proofs.retain.retain_slots.Given as goal

-- at most `live_left` slots from this place on are Live; what is left from there on, with what was left before it, is what is left of all
abbrev pub invariant-values : goal.invariant-values
invariant-values g l = record {
  few : live_count (drop l.at l.slots.slots) ≤ l.live_left;
  callable : MayCallInTurn g.F.FnMut l.f (entries (drop l.at l.slots.slots));
  fits : l.sum + total (entries (drop l.at l.slots.slots)) < 2 ^ 64;
  retained : (last : List (Slot g.row.T.Denot)) (f' : g.row.F.Denot) → RetainsFrom g.F.FnMut l.at l.f l.slots.slots last f' → RetainsFrom g.F.FnMut l.fn.from l.fn.f l.fn.slots.slots last f';
  sum : (last : List (Slot g.row.T.Denot)) (f' : g.row.F.Denot) → RetainsFrom g.F.FnMut l.at l.f l.slots.slots last f' → total (entries (drop l.fn.from last)) ≡ l.sum + total (entries (drop l.at last));
  reached : (hash : g.row.T.Denot → ℕ) → IsReached hash l.fn.slots → IsReached hash l.slots;
}

abbrev pub decreases-values : goal.decreases-values
decreases-values g l = l.live_left
