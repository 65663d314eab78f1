use Rattle.std.proofs.Common.{◌≡◌, ◌++◌, length}
use Rattle.std.specs.String.{string_bytes}
use Rattle.hashbag_csv.specs.Groups.{marks_fit, without}
use Rattle.hashbag_csv.proofs.groups.digits_of_groups.Given as goal

-- what is left decides, and its digits follow
abbrev pub invariant-bytes : goal.invariant-bytes
invariant-bytes l = record {
  fit : marks_fit l.group l.fn.whole ≡ marks_fit l.group l.rest;
  digits : without l.group l.fn.whole ≡ string_bytes l.digits ++ without l.group l.rest;
}

-- a byte less is left
abbrev pub decreases-bytes : goal.decreases-bytes
decreases-bytes l = length l.rest
