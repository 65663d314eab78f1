use Rattle.std.proofs.Common.{◌≡◌, false, drop}
use Rattle.hashbag_csv.specs.Faults.{is_grouped}
use Rattle.hashbag_csv.proofs.numbers.are_groups.Given as goal

-- what is left decides, after what was read
abbrev pub invariant-loop-byte : goal.invariant-loop-byte
invariant-loop-byte l = is_grouped l.mark false l.text ≡ is_grouped l.mark l.after_digit (drop l.byte-index l.text)
