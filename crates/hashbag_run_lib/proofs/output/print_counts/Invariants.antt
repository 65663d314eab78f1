use Rattle.std.proofs.Common.{◌≡◌, ◌++◌, take}
use Rattle.std.specs.Prelude.{flat_map, string_bytes}
use Rattle.hashbag_run_lib.specs.Lines.{count_line}
use Rattle.hashbag_run_lib.proofs.output.print_counts.Given as goal

abbrev pub invariant-loop-value : goal.invariant-loop-value
invariant-loop-value l = string_bytes l.text ≡ string_bytes l.initial.text ++ flat_map (count_line l.kind) (take l.value-index l.counts.items)
