use Rattle.std.proofs.Common.{◌≡◌, ◌≤◌, ◌-◌, ◌++◌}
use Rattle.std.specs.String.{string_bytes}
use Rattle.hashbag_csv.specs.Tables.{spaces}
use Rattle.hashbag_csv.proofs.table.push_spaces.Given as goal

-- the spaces so far
abbrev pub invariant-spaces : goal.invariant-spaces
invariant-spaces l = record {
  few : l.written ≤ l.n;
  text : string_bytes l.table ≡ string_bytes l.fn.table ++ spaces l.written;
}

abbrev pub decreases-spaces : goal.decreases-spaces
decreases-spaces l = l.n - l.written
