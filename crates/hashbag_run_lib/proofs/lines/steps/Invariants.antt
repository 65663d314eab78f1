use Rattle.std.proofs.Common.{◌≡◌, ◌<◌, ℕ, false, [], length, map, take, get_or}
use Rattle.std.specs.Prelude.{codes, filter_map}
use Rattle.hashbag_run_lib.specs.Commands.{command_of, command_on, is_bad, lines_of}
use Rattle.hashbag_run_lib.proofs.lines.steps.Given as goal

abbrev pub invariant-loop-line : goal.invariant-loop-line
invariant-loop-line l = record {
  counted : l.passed ≡ length l.yielded;
  good : (k : ℕ) → k < length l.yielded → is_bad (get_or (lines_of l.text) k []) ≡ false;
  first : map command_of l.scripts.a.items ≡ filter_map (command_on (codes "a")) (take (length l.yielded) (lines_of l.text));
  second : map command_of l.scripts.b.items ≡ filter_map (command_on (codes "b")) (take (length l.yielded) (lines_of l.text));
}
