use Rattle.std.proofs.Common.{◌≡◌, ◌++◌, take}
use Rattle.std.specs.Prelude.{flat_map, string_bytes}
use Rattle.hashbag_run_lib.specs.Lines.{signed_line}
use Rattle.hashbag_run_lib.proofs.output.print_signed.Given as goal

abbrev pub invariant-loop-value : goal.invariant-loop-value
invariant-loop-value l = string_bytes l.text ≡ string_bytes l.initial.text ++ flat_map (signed_line) (take l.value-index l.signed.items)
