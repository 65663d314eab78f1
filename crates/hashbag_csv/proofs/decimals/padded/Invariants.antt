use Rattle.std.proofs.Common.{◌≡◌, ◌-◌, ◌≤◌, replicate}
use Rattle.std.specs.String.{string_bytes, string_len}
use Rattle.hashbag_csv.proofs.decimals.padded.Given as goal

-- zeros alone, and not too many
abbrev pub invariant-zeros : goal.invariant-zeros
invariant-zeros l = record {
  zeros : string_bytes l.text ≡ replicate (string_len l.text) 48;
  few : string_len l.text ≤ l.missing;
}

abbrev pub decreases-zeros : goal.decreases-zeros
decreases-zeros l = l.missing - string_len l.text
