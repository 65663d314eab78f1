use Rattle.std.proofs.Common.{◌≡◌, All, take}
use Rattle.std.specs.Map.{keys_of}
use Rattle.hashbag_ledger_lib.specs.Dated.{IsNetOf}
use Rattle.hashbag_ledger_lib.proofs.dated.rows_of.Given as goal

-- the rows so far
abbrev pub invariant-loop-entry : goal.invariant-loop-entry
invariant-loop-entry g l = record {
  keys : keys_of l.rows.items ≡ keys_of (take l.entry-index l.articles);
  numbers : All (IsNetOf l.came.items l.went.items) l.rows.items;
}
