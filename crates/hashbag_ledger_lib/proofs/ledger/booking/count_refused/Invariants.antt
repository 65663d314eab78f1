use Rattle.std.proofs.Common.{◌≡◌, ◌≤◌, length, take}
use Rattle.hashbag_ledger_lib.specs.Entries.{refusals_in}
use Rattle.hashbag_ledger_lib.proofs.ledger.booking.count_refused.Given as goal

-- how many of the movements so far were refused
abbrev pub invariant-loop-entry : goal.invariant-loop-entry
invariant-loop-entry g l = record {
  counted : l.refused ≡ length (refusals_in (take l.entry-index l.entries));
  few : l.refused ≤ l.entry-index;
}
